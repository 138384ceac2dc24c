-- What each public call promises: its answer, and each lent area after it, are the rule's. Nothing else is left open.
use Rattle.std.specs.Prelude.{ℕ, ◌≡◌, List}
use Rattle.rules.specs.Delivery.{delivery}
use Rattle.rules.specs.Opening.{opening}
use Rattle.rules.specs.Summary.{clock_with, release_with, empty_summary}
use Rattle.rules.specs.Arrival.{arrival}
use Rattle.rules.specs.Sending.{sending}
use Rattle.rules.specs.declared.Table.{Table}
use Rattle.rules.specs.declared.Request.{Request}
use Rattle.rules.specs.declared.Received.{Received}
use Rattle.rules.specs.declared.Swept.{Swept}
use Rattle.rules.specs.declared.Opened.{Opened}
use Rattle.rules.specs.declared.Sent.{Sent}
use Rattle.rules.specs.declared.Decision.{Decision}

pub record OfOpening (registry : List ℕ) (timer time : ℕ) (answer : Opened) (m' : List ℕ) : Type 0 where
  pub answered : answer ≡ opening registry timer time
  pub summed : m' ≡ empty_summary

pub record OfArrival (t : Table) (m store report : List ℕ) (time association : ℕ) (s : List ℕ) (answer : Received) (m' store' report' : List ℕ) : Type 0 where
  pub answered : answer ≡ (arrival t m store report time association s).call.answer
  pub summed : m' ≡ (arrival t m store report time association s).summary
  pub stored : store' ≡ (arrival t m store report time association s).call.store
  pub reported : report' ≡ (arrival t m store report time association s).call.report

pub record OfClock (t : Table) (m report : List ℕ) (time : ℕ) (answer : Swept) (m' report' : List ℕ) : Type 0 where
  pub answered : answer ≡ (clock_with t m report time).call.answer
  pub summed : m' ≡ (clock_with t m report time).summary
  pub reported : report' ≡ (clock_with t m report time).call.report

pub record OfRelease (t : Table) (m report : List ℕ) (association : ℕ) (answer : Swept) (m' report' : List ℕ) : Type 0 where
  pub answered : answer ≡ (release_with t m report association).call.answer
  pub summed : m' ≡ (release_with t m report association).summary
  pub reported : report' ≡ (release_with t m report association).call.report

pub record OfDelivery (d : Decision) (s store part : List ℕ) : Type 0 where
  pub handed : part ≡ delivery d s store

pub record OfSending (t : Table) (q : Request) (o d whole area : List ℕ) (answer : Sent) (area' : List ℕ) : Type 0 where
  pub answered : answer ≡ (sending t q o d whole area).answer
  pub written : area' ≡ (sending t q o d whole area).area
