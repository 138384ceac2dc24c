use Rattle.std.proofs.Common.{rules, ◌≡◌, ℕ, ◌-◌, ◌<◌, List, ◌++◌, arith, length, take, drop, sym, ap, ◌∙◌, subst, append_assoc, take-append-drop, length-append, Result, Ok, Err, OnErr}
use Rattle.std.proofs.lemmas.List.{take_rest}
use Rattle.std.proofs.Math.Seq.{take-append_seam}
use Rattle.std.specs.Io.KnownBytes.{Appends}
use Rattle.std.proofs.KnownBytes.{Appends-trans, Appends-kept}
use Rattle.streams.proofs.write.Goals as goal

moved : (all gone rest : List ℕ) (n : ℕ) → all ≡ gone ++ rest → all ≡ (gone ++ take n rest) ++ take (length rest - n) (drop n rest)
moved all gone rest n e =
    e ∙ ap (λ l. gone ++ l) (sym (take-append-drop n rest)) ∙ sym (append_assoc gone (take n rest) (drop n rest)) ∙ ap (λ l. (gone ++ take n rest) ++ l) (sym (take_rest rest n))

on_err : {A E : Type 0} (r : Result A E) (P : Type 0) → P → OnErr r P
on_err (Ok _) P p = tt
on_err (Err _) P p = p

pub loop-rest-preserved : goal.loop-rest-preserved
loop-rest-preserved g c =
    let (gone, split, wrote) = c.loop-rest.invariant in
    let rest = c.loop-rest.rest.now in
    let n = c.in_ok-n.n in
    (gone ++ take n rest, moved _ gone rest n split, Appends-trans _ _ _ _ _ wrote c.in_ok-n.ensures.bytes)

pub returns-in_err-n-clause-failed : goal.returns-in_err-n-clause-failed
returns-in_err-n-clause-failed g c =
    let (gone, split, wrote) = c.loop-rest.invariant in
    let rest = c.loop-rest.rest.now in
    let front : take (length gone) c.args.octets.now ≡ gone = ap (take (length gone)) split ∙ take-append_seam gone rest in
    let more : 0 < length rest = search rules in
    let went : (n : ℕ) × (n < length c.args.octets.now) × Appends (g.W.Write.contents c.args.sink.now) (g.W.Write.contents c.write_some.new.sink) (take n c.args.octets.now) =
    (length gone, omega (arith, ap length split, length-append gone rest, more), subst (Appends _ _) (sym front) (Appends-kept _ _ _ gone wrote c.in_err-n.ensures.bytes)) in
    on_err _ _ went
