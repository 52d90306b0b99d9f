-- The loop of `show_files` ends: each file that it shows leaves less.
use Rattle.std.proofs.Common.{length}
use Rattle.reader.proofs.show_files.Given as goal

abbrev pub decreases-loop-file : goal.decreases-loop-file
decreases-loop-file g l = length l.files
