-- Writing octets into a lent area at a place.
use Rattle.std.specs.Prelude.{◌≡◌, List, ℕ, ◌+◌, length}
use Rattle.std.proofs.lemmas.List.Edits.{sets}

-- the area with the octets stored over it, one by one, from index `at` on; none is stored past its end, so it keeps its length
unfoldable pub splice : List ℕ → ℕ → List ℕ → List ℕ
splice area at octets = sets area at octets

-- what a writer does that goes on from one place to the next: the octets are in the area from `at` on, and `next` is past them
pub record Wrote (before : List ℕ) (at : ℕ) (octets after : List ℕ) (next : ℕ) : Type 0 where
  pub place : next ≡ at + length octets
  pub stored : after ≡ splice before at octets
