use mathlib.Core.Path.{refl}
use Rattle.octets.proofs.Splice.{wrote_then}
use Rattle.receive_report.proofs.put_address.Goals as goal

pub returns-clause-report_after : goal.returns-clause-report_after
returns-clause-report_after c =
    (wrote_then (record { place = refl; stored = c.put_at.ensures }) (record { place = refl; stored = c.put_at-2.ensures })).stored
