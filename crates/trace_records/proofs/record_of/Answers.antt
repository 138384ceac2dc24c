use Rattle.trace_records.proofs.Listing.{record_is}
use Rattle.trace_records.proofs.record_of.Goals as goal

pub returns : goal.returns
returns c =
    record_is c.args.l.now _ _ _ _ _ c.address_in-origin.ensures c.address_in-destination.ensures c.number2.ensures c.number2-2.ensures c.number2-3.ensures
