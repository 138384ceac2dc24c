-- What a closure answers of two elements.
use Rattle.std.specs.Prelude.{◌≡◌, Bool}
use Rattle.std.specs.Borrow.{Bor}

-- each answer that a call may give of two elements is what the test says of them
abbrev pub Computes : {A : Type 0} → (Bor A → Bor A → Bool → Type 0) → (A → A → Bool) → Type 0
Computes {A} answers test = (x y : Bor A) (b : Bool) → answers x y b → b ≡ test x.now y.now
