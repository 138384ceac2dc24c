use Rattle.demands.specs.History.{silence}
use Rattle.demanded.proofs.Calls.{emptied}
use Rattle.demanded.proofs.opened_then_clock.Goals as goal

-- the clock, along the history that the opening began
pub returns : goal.returns
returns c st =
    let o = c.c_opening-opened.ensures st in
    rw (← emptied st c.args.registry.now c.args.timer c.args.clock c.c_opening-opened.result _ o.exact) ((c.c_clock-swept.ensures st.store).along _ (o.along silence).on)
