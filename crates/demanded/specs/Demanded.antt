-- What is demanded of each call of the code, in the demands' own words: of what is seen of it, whatever state and history it is made in.
use Rattle.std.specs.Prelude.{ℕ, List, []}
use Rattle.rules.specs.Promises.{OfDelivery}
use Rattle.rules.specs.Summary.{counting, empty_summary}
use Rattle.rules.specs.Calls.{State, state_of, to_open, to_arrive, to_tick, to_release, to_send, Outcome, after_opening, after_arrival, after_sweep, after_sending}
use Rattle.rules.specs.declared.Table.{Table}
use Rattle.rules.specs.declared.Request.{Request}
use Rattle.rules.specs.declared.Opened.{Opened}
use Rattle.rules.specs.declared.Received.{Received}
use Rattle.rules.specs.declared.Swept.{Swept}
use Rattle.rules.specs.declared.Sent.{Sent}
use Rattle.host_numbers.specs.Crossing.{decision_of, taken}
use Rattle.host.specs.declared.CReceived.{CReceived}
use Rattle.demands.specs.Seen.{Seen, seen_of}
use Rattle.demands.specs.History.{after, silence}
use Rattle.demands.specs.Demanded.{Met, Demanded, Begun}
use Rattle.demanded.specs.declared.Handed.{Handed}
use Rattle.demanded.specs.declared.Both.{Both}

-- an opening, whatever state was before it
abbrev pub seen_opening : State → List ℕ → ℕ → ℕ → Opened → List ℕ → Seen
seen_opening st registry timer clock r m' =
    seen_of st (to_open registry timer clock) (record { answer = (after_opening st.store r).answer; state = state_of r.table m' st.store }) []

abbrev pub DemandedOpening : List ℕ → ℕ → ℕ → Opened → List ℕ → Type 0
DemandedOpening registry timer clock r m' = (st : State) → Begun (seen_opening st registry timer clock r m')

-- what an arrival leaves; the records that it made are read from its report
abbrev pub leaving : Received → List ℕ → List ℕ → List ℕ → Outcome
leaving r m' store' report' = after_arrival (counting m' (record { answer = r; store = store'; report = report'; made = [] }))

-- an arrival, with what the delivery asked for with its answer hands over
abbrev pub DemandedArrival : Table → List ℕ → List ℕ → List ℕ → ℕ → ℕ → List ℕ → Received → List ℕ → List ℕ → List ℕ → Type 0
DemandedArrival t m store report time association s r m' store' report' =
    (handed : List ℕ) → OfDelivery r.decision s store' handed
    → Demanded (seen_of (state_of t m store) (to_arrive time association s report) (leaving r m' store' report') handed)

-- the clock and a release, whatever the store is
abbrev pub sweeping : List ℕ → Swept → List ℕ → List ℕ → Outcome
sweeping store r m' report' = after_sweep store (counting m' (record { answer = r; report = report'; made = [] }))

abbrev pub seen_clock : Table → List ℕ → List ℕ → List ℕ → ℕ → Swept → List ℕ → List ℕ → Seen
seen_clock t m store report time r m' report' = seen_of (state_of t m store) (to_tick time report) (sweeping store r m' report') []

abbrev pub DemandedClock : Table → List ℕ → List ℕ → ℕ → Swept → List ℕ → List ℕ → Type 0
DemandedClock t m report time r m' report' = (store : List ℕ) → Demanded (seen_clock t m store report time r m' report')

abbrev pub seen_release : Table → List ℕ → List ℕ → List ℕ → ℕ → Swept → List ℕ → List ℕ → Seen
seen_release t m store report association r m' report' = seen_of (state_of t m store) (to_release association report) (sweeping store r m' report') []

abbrev pub DemandedRelease : Table → List ℕ → List ℕ → ℕ → Swept → List ℕ → List ℕ → Type 0
DemandedRelease t m report association r m' report' = (store : List ℕ) → Demanded (seen_release t m store report association r m' report')

-- a sending, whatever the summary and the store are
abbrev pub DemandedSending : Table → Request → List ℕ → List ℕ → List ℕ → List ℕ → Sent → List ℕ → Type 0
DemandedSending t q o d whole area r area' =
    (m store : List ℕ) → Demanded (seen_of (state_of t m store) (to_send q o d whole area) (after_sending (state_of t m store) (record { answer = r; area = area' })) [])

-- for C: an arrival's answer as it crossed, and the octets of the part that the host takes with it
abbrev pub of_c : CReceived → List ℕ → List ℕ → List ℕ → Outcome
of_c r m' store' report' = leaving (record { table = r.table; decision = decision_of r.decision; position = r.position; refusal = r.refusal; records = r.records; timeouts = r.timeouts }) m' store' report'

abbrev pub DemandedC : Table → List ℕ → List ℕ → List ℕ → ℕ → ℕ → List ℕ → Handed → List ℕ → List ℕ → List ℕ → Type 0
DemandedC t m store report time association s r m' store' report' =
    Demanded (seen_of (state_of t m store) (to_arrive time association s report) (of_c r.received m' store' report') (taken r.part s store'))

-- two calls in a row, with nothing asked of the history: the second is met after the first
abbrev pub OfBoth : List ℕ → ℕ → ℕ → List ℕ → ℕ → Both → List ℕ → List ℕ → Type 0
OfBoth registry timer clock report time r m' report' =
    (st : State) → Met (after silence (seen_opening st registry timer clock r.opened empty_summary)) (seen_clock r.opened.table empty_summary st.store report time r.swept m' report')
