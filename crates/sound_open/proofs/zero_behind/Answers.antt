use Rattle.std.proofs.Common.{rules, ◌≡◌, ℕ, List, [], ◌∷◌, ◌-◌, ap, ◌∙◌, arith}
use Rattle.rules.specs.General.{every}
use Rattle.rules.specs.Soundness.{is_zero}
use Rattle.sound_open.specs.Filled.{capped}
use Rattle.sound_open.proofs.Filled.{little, at_most, drop-capped}
use Rattle.sound_open.proofs.zero_behind.Goals as goal

pub returns : goal.returns
returns c =
    let a = c.args in
    let l : List ℕ = a.a ∷ a.b ∷ a.c ∷ a.d ∷ a.e ∷ a.f ∷ a.g ∷ a.h ∷ [] in
    let number : c.from_le_bytes.result ≡ little l = omega (arith, c.from_le_bytes.ensures) in
    rw (number, c.most.ensures)
    (at_most l (capped (a.n - a.at)) (search rules, (search rules, (search rules, (search rules, (search rules, (search rules, (search rules, (search rules, tt))))))))
    ∙ ap (every is_zero) (drop-capped l (a.n - a.at) (omega arith)))
