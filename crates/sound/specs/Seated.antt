-- What a summary's soundness wants to know of an open place.
use Rattle.std.specs.Prelude.{ℕ}
use Rattle.rules.specs.declared.Place.{Place}

abbrev pub association_of : Place → ℕ
association_of p = p.key.association
