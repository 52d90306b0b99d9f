-- The loop of `code_of`: the settings before this one don't give the variable.
use Rattle.std.proofs.Common.{◌≡◌, map, drop}
use Rattle.rules.specs.MeetsS.{given}
use Rattle.activity.specs.View.{setting_of}
use Rattle.placed.proofs.row.code_of.Given as goal

abbrev pub invariant-loop-setting : goal.invariant-loop-setting
invariant-loop-setting l = given (map setting_of l.settings) l.variable ≡ given (map setting_of (drop l.setting-index l.settings)) l.variable
