-- Where data is cut, by the lengths of what is cut.
use Rattle.std.specs.Prelude.{if◌then◌else◌, ℕ, zero, suc, ◌+◌, ◌-◌, ◌*◌, ◌/◌, ◌≤◌, ◌<◌, ◌≡◌, true, false, [], ◌∷◌, leb, ltb, Result, Ok, Err, IfOk}
use Rattle.refusals.specs.declared.Refusal.{Refusal}
use Rattle.rules.specs.Numbers.{segments_most}
use Rattle.rules.specs.Refusals.{◌when◌, ◌for◌over◌, judged}
use Rattle.rules.specs.Layout.{has_addresses}
use Rattle.rules.specs.Sending.{is_segmented, first_carries, later_carries, count_of, cut_checks}
use Rattle.rules.specs.declared.Request.{Request}
use Rattle.send_cut.specs.declared.Piece.{Piece}

-- h, by the lengths of the addresses
abbrev pub header_for : ℕ → ℕ → ℕ → ℕ → ℕ
header_for kind x o d = (if ltb x 128 then 1 else 2) + 2 + (if has_addresses kind then 2 + o + d else 0)

-- the piece of the data that segment k carries: where it starts, and how long it is at most
abbrev pub piece_from : ℕ → ℕ → ℕ → ℕ
piece_from a b zero = 0
piece_from a b (suc k) = a + k * b

abbrev pub piece_size : ℕ → ℕ → ℕ → ℕ
piece_size a b zero = a
piece_size a b (suc k) = b

abbrev pub piece_of : ℕ → Request → ℕ → Piece
piece_of h q n =
    record {
      count = count_of h q n;
      segmented = is_segmented h q n;
      from = if is_segmented h q n then piece_from (first_carries h q) (later_carries h q) q.number else 0;
      size = if is_segmented h q n then piece_size (first_carries h q) (later_carries h q) q.number else n;
    }

-- or the number of its refusal
unfoldable pub plan_of : ℕ → Request → ℕ → Result Piece ℕ
plan_of h q n = judged (cut_checks h q n) Err (Ok (piece_of h q n))

-- the same where the data is segmented: the first carries a octets, each later one b
abbrev pub segment_count : ℕ → ℕ → ℕ → ℕ
segment_count a b n = 1 + (n - a + (b - 1)) / b

unfoldable pub segments_plan : ℕ → ℕ → ℕ → ℕ → Result Piece ℕ
segments_plan a b n k =
    judged (18 for segment_count a b n over segments_most ∷ 19 when leb (segment_count a b n) k ∷ []) Err
    (Ok (record { count = segment_count a b n; segmented = true; from = piece_from a b k; size = piece_size a b k }))

-- a cut that was made
pub record Possible (number : ℕ) (p : Piece) : Type 0 where
  pub below : number < p.count
  pub few : p.count ≤ 10
  pub one : p.segmented ≡ false → p.count ≡ 1

abbrev pub CutPossible : ℕ → Result Piece Refusal → Type 0
CutPossible number plan = IfOk plan (λ p. Possible number p)
