-- `list::read_item` meets its contract.
use Rattle.std.proofs.Common.{sym, refl}
use Rattle.text.specs.Text.{item_is, is_item, item_of}
use Rattle.text.proofs.Digits.{number_bad, number_good}
use Rattle.text.proofs.Numbers.{numbers_bad, numbers_good}
use Rattle.text.proofs.list.read_item.Goals as goal

pub returns-in_err-a-in-One : goal.returns-in_err-a-in-One
unfolding item_is is_item
returns-in_err-a-in-One c = rw (c.from_residual.ensures, c.in-One.is, number_bad _ (sym c.in_err-a-in-One.ensures)) refl

pub returns-in_err-a-in-Two : goal.returns-in_err-a-in-Two
unfolding item_is is_item
returns-in_err-a-in-Two c = rw (c.from_residual-in_err-a-in-Two.ensures, c.in-Two.is, numbers_bad 2 _ _ (sym c.in_err-a-in-Two.ensures)) refl

pub returns-in_err-a-in-Three : goal.returns-in_err-a-in-Three
unfolding item_is is_item
returns-in_err-a-in-Three c = rw (c.from_residual-in_err-a-in-Three.ensures, c.in-Three.is, numbers_bad 3 _ _ (sym c.in_err-a-in-Three.ensures)) refl

pub returns-in_ok-a-in-One : goal.returns-in_ok-a-in-One
unfolding item_is is_item item_of
returns-in_ok-a-in-One c =
    let g = number_good _ _ (sym c.in_ok-a-in-One.ensures) in
    rw (c.in-One.is, g.0, g.1) refl

pub returns-in_ok-a-in-Two : goal.returns-in_ok-a-in-Two
unfolding item_is is_item item_of
returns-in_ok-a-in-Two c =
    let g = numbers_good 2 _ _ _ (sym c.in_ok-a-in-Two.ensures) in
    rw (c.in-Two.is, g.0, g.1 0, g.1 1) refl

pub returns-in_ok-a-in-Three : goal.returns-in_ok-a-in-Three
unfolding item_is is_item item_of
returns-in_ok-a-in-Three c =
    let g = numbers_good 3 _ _ _ (sym c.in_ok-a-in-Three.ensures) in
    rw (c.in-Three.is, g.0, g.1 0, g.1 1, g.1 2) refl
