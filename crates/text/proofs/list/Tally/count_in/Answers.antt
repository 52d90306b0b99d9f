-- `list::Tally::count_in` meets its contract: each arm is one law.
use Rattle.std.proofs.Common.{◌≡◌, true, arith}
use Rattle.text.specs.Text.{item_of, kind_of}
use Rattle.text.proofs.Items.{from_outside, from_back, from_turned, from_full, from_good, inside, outside_first, outside_others}
use Rattle.text.proofs.list.Tally.count_in.Goals as goal
use Rattle.text.proofs.list.Tally.count_in.Goals.{then-from-a-via-then-from-a, then-from-a-via-else-from-a+then-from-max, then-form, else-form, then-a-self-via-then-a-self, then-a-self-via-else-a-self+then-high-a, then-a-self-via-else-a-self+else-high-a+then-form-len}

pub returns-then-from-a-clause-value : goal.returns-then-from-a-clause-value
returns-then-from-a-clause-value g c = λ p ps e i.
    let f = c.args.form in
    let a = c.args.a in
    let b = c.args.b in
    let d = c.args.c in
    from_outside (kind_of f) _ _ _ p ps e (rw i
    (elim c.then-from-a.branch [
      | then-from-a-via-then-from-a w ↦ outside_first f a b d (omega arith)
      | then-from-a-via-else-from-a+then-from-max w ↦ outside_others f a b d (omega (arith, w.max.ensures))
    ]))

pub returns-then-a-self-clause-value : goal.returns-then-a-self-clause-value
returns-then-a-self-clause-value g c = λ p ps e i.
    let f = c.args.form in
    let k = kind_of f in
    let in_range : k.in_range (item_of f.shape p) ≡ true = rw i (inside f c.args.a c.args.b c.args.c (omega arith) (omega arith)) in
    let high : c.if-form.high ≡ k.high (item_of f.shape p) = rw i (elim c.if-form.branch [ then-form w ↦ rw w.if-form.true w.high-is | else-form w ↦ rw w.if-form.false w.high-is ]) in
    rw c.or-self.ensures
    (elim c.then-a-self.branch [
      | then-a-self-via-then-a-self w ↦ from_back k _ _ _ p ps e in_range (rw i (omega arith))
      | then-a-self-via-else-a-self+then-high-a w ↦ from_turned k _ _ _ p ps e in_range (rw (← high, i) (omega arith))
      | then-a-self-via-else-a-self+else-high-a+then-form-len w ↦ from_full k _ _ _ p ps e in_range (omega arith)
    ])

pub returns-clause-value : goal.returns-clause-value
returns-clause-value g c = λ p ps e i.
    let f = c.args.form in
    let k = kind_of f in
    let in_range : k.in_range (item_of f.shape p) ≡ true = rw i (inside f c.args.a c.args.b c.args.c (omega arith) (omega arith)) in
    let high : c.if-form.high ≡ k.high (item_of f.shape p) = rw i (elim c.if-form.branch [ then-form w ↦ rw w.if-form.true w.high-is | else-form w ↦ rw w.if-form.false w.high-is ]) in
    rw (c.push.ensures, high, ← i) (from_good k _ _ _ p ps e in_range (rw i (omega arith)) (rw (← high, i) (omega arith)))
