-- What the library answers for every byte string meets demand 3: its answers unpacked are those of the calls.
use Prim.Native.Nat.{ℕ}
use mathlib.Core.Path.{◌≡◌, ◌∙◌, ap}
use mathlib.Core.List.{List, [], ◌∷◌}
use native.Mathlib.Omega.{arith}
use lib.ListN.{length}
use borrow.Author.Tests.{le-leb, lt-leb, lt-ltb}
use Rattle.rules.specs.Plan.{Plan}
use Rattle.rules.specs.Reading.{accepted, refused, reading}
use Rattle.rules.specs.Calls.{Filled, refusal, full, slice_after, refusing, filling, outcome_of, outcome_call, report_of, report_call, starts_of, starts_call}
use Rattle.rules.specs.Demand.{Demand3}
use Rattle.rules.specs.Refusals.{Refusal}
use Rattle.rules.proofs.Demand.{demand3}
use Rattle.calls.proofs.Running.{too_long, fitting}
use Rattle.packing.specs.Packing.{packed, count_in}
use Rattle.station.specs.Exported.{Exported}
use Rattle.station.specs.Promise.{Writes, Refuses, Answered, RefusedAs, Promise}
use Rattle.station.specs.Unpacking.{report_most, runs_most}
use Rattle.station.proofs.Sizes.{report_as, starts_as}
use Rattle.station.proofs.Unpacking.{unpacking, count_of}

module _ {A : Type 0} (call : ℕ → Filled A) (unpacked : (room : ℕ) → count_in (packed (call room).terms) ≡ (call room).terms) where
  -- what a call answers and leaves is what its definition says
  as_defined : (f : Filled A) (lent after : List A) (r : ℕ) → Exported (call (length lent)) lent r after → call (length lent) ≡ f → (count_in r ≡ f.terms) × (after ≡ slice_after f.written lent)
  as_defined f lent after r F e = (ap count_in F.answer ∙ unpacked (length lent) ∙ ap (λ g. g.terms) e, F.slice ∙ ap (λ g. slice_after g.written lent) e)

  left_alone : (number line : ℕ) (lent after : List A) (r : ℕ) → Exported (call (length lent)) lent r after → call (length lent) ≡ refusing number line → (count_in r ≡ refusal number line) × (after ≡ lent)
  unfolding slice_after
  left_alone number line lent after r F e = as_defined (refusing number line) lent after r F e

  writes : (xs : List A) → ((room : ℕ) → call room ≡ filling room xs) → Writes call xs
  writes xs e =
      record {
        written = λ lent after r F h. as_defined (record { terms = full (length xs ∷ []); written = xs }) lent after r F (e (length lent) ∙ fitting _ _ h);
        short = λ lent after r F h. left_alone 10 0 lent after r F (e (length lent) ∙ too_long _ _ h);
      }

  refuses : (number line : ℕ) → ((room : ℕ) → call room ≡ refusing number line) → Refuses call number line
  refuses number line e lent after r F = left_alone number line lent after r F (e (length lent))

module _ (s : List ℕ) where
  report_unpacked : (room : ℕ) → count_in (packed (report_call s room).terms) ≡ (report_call s room).terms
  report_unpacked room = (count_of report_most (omega arith) (report_call s) (report_as s) room).answer

  starts_unpacked : (k m room : ℕ) → count_in (packed (starts_call s k m room).terms) ≡ (starts_call s k m room).terms
  starts_unpacked k m room = (count_of runs_most (omega arith) (starts_call s k m) (starts_as s k m) room).answer

  answered : (p : Plan) → reading s ≡ accepted p → Answered s p
  unfolding outcome_call outcome_of starts_call starts_of
  answered p e =
      let D : Demand3 s p = demand3 s p e in
      record {
        answers = D.answers;
        right = D.right;
        outcome = λ k r x h. ((unpacking s).outcome k r x).answer ∙ D.called k h;
        beyond = λ k r x h. ((unpacking s).outcome k r x).answer ∙ rw (e, le-leb _ _ h);
        report = writes (report_call s) report_unpacked _ D.report;
        runs = λ k m h l. let R = D.runs k m h l in (R.0, R.1, R.2, writes (starts_call s k m) (starts_unpacked k m) R.0 R.3);
        no_place = λ k m h. refuses (starts_call s k m) (starts_unpacked k m) 11 0 (λ room. rw (e, le-leb _ _ h));
        no_set = λ k m h l. refuses (starts_call s k m) (starts_unpacked k m) 12 0 (λ room. rw (e, lt-leb _ _ h, lt-ltb _ _ l));
      }

  refused_all : (q : Refusal) → reading s ≡ refused q → RefusedAs s q
  unfolding outcome_call outcome_of report_call report_of starts_call starts_of
  refused_all q e =
      record {
        outcome = λ k r x. ((unpacking s).outcome k r x).answer ∙ rw e;
        report = refuses (report_call s) report_unpacked q.number q.line (λ room. rw e);
        starts = λ k m. refuses (starts_call s k m) (starts_unpacked k m) q.number q.line (λ room. rw e);
      }

pub promise : (s : List ℕ) → Promise s
promise s = record { accepted_as = answered s; refused_as = refused_all s }
