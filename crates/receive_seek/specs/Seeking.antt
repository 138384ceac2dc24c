-- What is sought for a parameter that has been read.
use Rattle.std.specs.Prelude.{◌≡◌, false}
use Rattle.rules.specs.Layout.{is_unsegmented}
use Rattle.rules.specs.Places.{place_of, lowest_free}
use Rattle.table.specs.Seeking.{Points}
use Rattle.receive_seek.specs.declared.Sought.{Sought}
use Rattle.rules.specs.declared.Key.{Key}
use Rattle.rules.specs.declared.Table.{Table}
use Rattle.rules.specs.declared.Heading.{Heading}

-- what is sought for a key; an unsegmented parameter needs no place
pub record Seeks (t : Table) (k : Key) (g : Heading) (q : Sought) : Type 0 where
  pub key-is : q.key ≡ k
  pub points : is_unsegmented g.new g.remaining.0 ≡ false → Points (place_of k t.places) (lowest_free t.places) q.search
