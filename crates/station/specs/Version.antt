-- The version of the library: the number that planner_version answers, PLANNER_VERSION of include/planner.h. docs/INTEGRATION.md says when it changes.
use Rattle.std.specs.Prelude.{ℕ}

abbrev pub version : ℕ
version = 3
