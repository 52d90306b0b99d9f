-- A schedule that breaks no limit (01, Placing and refusing): each condition that weighs activities together holds over the whole of it, no candidate added.
use Rattle.std.specs.Prelude.{◌≡◌, true}
use Rattle.rules.specs.Plan.{Header, Schedule}
use Rattle.rules.specs.MeetsU.{units_kept}
use Rattle.rules.specs.MeetsS.{needs_kept}
use Rattle.rules.specs.MeetsE.{engines_kept}
use Rattle.rules.specs.MeetsP.{peaks_kept}
use Rattle.rules.specs.MeetsB.{charge_kept}
use Rattle.rules.specs.MeetsV.{volume_kept}

pub record Kept (h : Header) (placed : Schedule) : Type 0 where
  pub units : units_kept h placed ≡ true
  pub needs : needs_kept h placed ≡ true
  pub engines : engines_kept h placed ≡ true
  pub peaks : peaks_kept h placed ≡ true
  pub charge : charge_kept h placed ≡ true
  pub volume : volume_kept h placed ≡ true
