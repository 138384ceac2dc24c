-- What the sender's steps answer.
use Rattle.std.specs.Prelude.{ℕ, ◌≤◌, ◌<◌, ◌≡◌, List, length, take, drop, Result, Ok, Err}
use Rattle.octets.specs.Splice.{splice}
use Rattle.refusals.specs.Numbers.{number_of}
use Rattle.refusals.specs.declared.Refusal.{Refusal}
use Rattle.rules.specs.Refusals.{judged}
use Rattle.rules.specs.Layout.{parameter_octets}
use Rattle.rules.specs.Sending.{Sending, header_length, heading_with, fit_checks, unsent}
use Rattle.rules.specs.declared.Request.{Request}
use Rattle.rules.specs.declared.Sent.{Sent}
use Rattle.send_cut.specs.Plan.{Possible}
use Rattle.send_cut.specs.declared.Piece.{Piece}

-- the answer that a step comes to
abbrev pub told : Result Sent Refusal → Sent
told (Ok s) = s
told (Err r) = record { refusal = number_of r; count = 0; length = 0 }

-- the octets of the segment that a piece is of
unfoldable pub octets_with : ℕ → Request → Piece → List ℕ → List ℕ → List ℕ → List ℕ
octets_with kind q p o d whole = parameter_octets (heading_with kind q p.count p.segmented) o d (take p.size (drop p.from whole))

-- a segment written to an area, or 20
unfoldable pub emitted : List ℕ → ℕ → List ℕ → Sending
emitted octets count area =
    judged (fit_checks (length area) (length octets)) (unsent area)
    (record { answer = record { refusal = 0; count = count; length = length octets }; area = splice area 0 octets })

pub record Emitted (octets : List ℕ) (count : ℕ) (area : List ℕ) (answer : Sent) (area' : List ℕ) : Type 0 where
  pub answered : answer ≡ (emitted octets count area).answer
  pub written : area' ≡ (emitted octets count area).area

-- what the sender's last step is given
pub record Ready (kind : ℕ) (q : Request) (p : Piece) (h : ℕ) (o d whole : List ℕ) : Type 0 where
  pub possible : Possible q.number p
  pub header : h ≡ header_length kind q.context.0 o d
  pub short : h ≤ 46
  pub origin : length o ≤ 20
  pub destination : length d ≤ 20
  pub size : length whole ≤ 2048
  pub context : q.context.0 < 16384
  pub instruction : q.instruction ≤ 3
  pub reference : q.reference.0 ≤ 127
