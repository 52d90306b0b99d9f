-- The digits stand behind what was there.
use Rattle.std.proofs.Common.{arith, ◌≡◌, ◌++◌, ◌∙◌, ap, length, take, replicate}
use Rattle.rules.specs.Number.{decimal}
use Rattle.text.proofs.Decimal.{decimal_most}
use Rattle.text.proofs.Put.{put_end}
use Rattle.text.proofs.bytes.Bytes.push_number.Goals as goal
use Rattle.text.proofs.bytes.Bytes.push_number.Goals.{After-put_number-count}

-- the digits alone
digits : (g : _) (c : After-put_number-count g) → take c.put_number-count.result c.put_number-count.new.out ≡ decimal c.args.x
digits g c = rw (c.put_number-count.ensures.value, c.put_number-count.ensures.out_after) (put_end (replicate 20 0) 0 (decimal c.args.x) (omega (arith, decimal_most c.args.x c.ranges.x.fits)))

pub put_number-count-requires : goal.put_number-count-requires
put_number-count-requires g c = omega (arith, decimal_most c.args.x c.ranges.x.fits)

pub slice_bounds-digits-end : goal.slice_bounds-digits-end
slice_bounds-digits-end g c = omega (arith, decimal_most c.args.x c.ranges.x.fits, c.put_number-count.ensures.value)

pub slice_bounds-push-end : goal.slice_bounds-push-end
slice_bounds-push-end g c =
    let all = ap length (digits g (goal.at.slice_bounds-push-end g c).After-put_number-count) in
    omega (arith, all, c.put_number-count.ensures.value)

pub push-requires : goal.push-requires
push-requires g c =
    let all = ap length (digits g (goal.at.push-requires g c).After-put_number-count) in
    omega (arith, all, c.requires, c.put_number-count.ensures.value)

pub returns : goal.returns
returns g c = c.push.ensures ∙ ap (λ w. c.args.self.now ++ w) (digits g (goal.at.returns g c).After-put_number-count)
