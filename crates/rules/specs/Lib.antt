-- Document 01 as definitions, in the order in which they depend on each other. A reader with the paper in hand finds its sections here:
--   What the gateway does with a parameter      (what is built: Calls)
--   Layout of a segment                         Layout
--   Numbers                                     Numbers, Registry
--   Records and other house octets              Records, Registry; of a trace: Trace
--   Receiving                                   Places (the key), Receiving (the lines), Delivery, Sweep (clock and release), Opening
--   Sending                                     Sending
--   Refusal numbers                             Refusals (how a number and a position are found), each call's own list beside the call; Soundness (what sound means); Blame (what a position tells)
--   What the contracts have to say              Promises
--   Examples on each side                       Examples; the replay program: Trace (the walk), Lines (what it prints); beside it, the program records: Listing
-- Of document 02: A1 in Summary, A2 and A5 in Layout, A3 in Places and Records, A6 in Arrival.
pub mod General
pub mod Numbers
pub mod Refusals
pub mod Registry
pub mod Layout
pub mod Records
pub mod Places
pub mod Soundness
pub mod Blame
pub mod Receiving
pub mod Delivery
pub mod Sweep
pub mod Opening
pub mod Summary
pub mod Arrival
pub mod Sending
pub mod Calls
pub mod Promises
pub mod Trace
pub mod Lines
pub mod Listing
pub mod Totalling
pub mod Examples
