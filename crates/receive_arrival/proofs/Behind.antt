-- The report area of an arrival: the clock's records at its front, and behind them the part that is lent on to the segment.
use Prim.Native.Nat.{ℕ, ◌+◌, ◌-◌, ◌≤◌}
use mathlib.Core.Path.{◌≡◌, sym, ap, ◌∙◌}
use mathlib.Core.List.{List, [], ◌++◌, append-nil}
use native.Mathlib.Omega.{arith}
use borrow.Rule.Slice.PartMut.{put_mid, mid_of, put_same}
use lib.ListN.{length, take, drop, length-drop, length-append, drop_of_length-le}
use lib.Seq.{take_all, drop_at, length-take-le}
use Rattle.octets.specs.Splice.{splice}
use Rattle.octets.proofs.Splice.{splice-is, splice-after, splice-back}

-- records of k octets in an area that has room for them
module _ (area records : List ℕ) (k : ℕ) (sized : length records ≡ k) (room : k ≤ length area) where
  pub front : take k (splice area 0 records) ≡ records
  front = rw (← sized) (splice-back area 0 records (omega arith))

  -- what is lent on is the part that they leave
  pub lent : mid_of k (length area - k) area ≡ drop k (splice area 0 records)
  lent = take_all (length area - k) (drop k area) (rw (length-drop k area) (omega arith)) ∙ sym (splice-after k area 0 records (omega arith))

  -- put back as it was
  pub unwritten : (after : List ℕ) → after ≡ drop k (splice area 0 records) → put_mid k (length area - k) area after ≡ area
  unwritten after e = ap (put_mid k (length area - k) area) (e ∙ sym lent) ∙ put_same k (length area - k) area

  -- the records written before what it became
  pub written : (after : List ℕ) → splice (put_mid k (length area - k) area after) 0 records ≡ take k (splice area 0 records) ++ after
  written after =
      let n : length (take k area) ≡ k = length-take-le k area room in
      let end : drop (length area - k) (drop k area) ≡ [] = drop_of_length-le (drop k area) {i = length area - k} (rw (length-drop k area) (omega arith)) in
      rw (front, end, append-nil, splice-is (take k area ++ after) 0 records (rw (length-append (take k area) after) (omega arith)), drop_at (take k area) after (0 + length records) (omega arith))
