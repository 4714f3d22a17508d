-- `plate_text::print_drawn` meets its contract. Assumes nothing.
use Rattle.std.proofs.Common.{rules}
use Rattle.plate_text.proofs.Ways.{refusal_drawn, measured_drawn}
use Rattle.plate_text.proofs.print_drawn.Goals as goal

pub returns-in-Err : goal.returns-in-Err
returns-in-Err c =
    let e = refusal_drawn _ _ _ _ _ _ _ _ c.draw_path.ensures c.requires.0 (search rules) (search rules) _ c.in-Err.is in
    record { told = search rules; printed = search rules }

pub returns-in-Ok : goal.returns-in-Ok
returns-in-Ok c =
    let e = measured_drawn _ _ _ _ _ _ _ _ c.draw_path.ensures c.requires.0 (search rules) (search rules) _ _ c.in-Ok.is in
    record { told = search rules; printed = search rules }
