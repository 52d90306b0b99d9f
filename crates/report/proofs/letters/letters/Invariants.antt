-- The loop of `letters`: the letters gone through are written.
use Rattle.std.proofs.Common.{◌≡◌, ◌≤◌, length, take}
use Rattle.rules.specs.Conditions.{condition_letters, letters_from}
use Rattle.report.proofs.letters.letters.Given as goal

abbrev pub invariant-loop-c : goal.invariant-loop-c
invariant-loop-c l = (length l.out ≤ l.c) × (l.out ≡ letters_from 0 (take l.c condition_letters) l.set)
