-- `masks::without_lowest` meets its contract. Assumes nothing.
use Rattle.masks.specs.LowestLaws.{without-none, and-before}
use Rattle.masks.proofs.without_lowest.Goals as goal

pub returns-then-m-eq0 : goal.returns-then-m-eq0
returns-then-m-eq0 c = without-none _ c.if-m-eq0.true

pub returns : goal.returns
returns c = and-before _ 64 c.ranges.m.fits c.if-m-eq0.false
