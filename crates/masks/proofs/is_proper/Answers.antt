-- `masks::is_proper` meets its contract. Assumes nothing.
use mathlib.Core.Path.{sym, ◌∙◌}
use native.Mathlib.Omega.{arith}
use Rattle.masks.specs.MaskLaws.{proper-odd, proper-few, proper-outside, proper-wide, proper-others}
use Rattle.masks.proofs.is_proper.Goals as goal

pub returns-then-m-ne0 : goal.returns-then-m-ne0
returns-then-m-ne0 c = sym (proper-odd _ _ c.if-m-ne0.true)

pub returns-then-not-has_two_taxa : goal.returns-then-not-has_two_taxa
returns-then-not-has_two_taxa c = sym (proper-few _ _ (sym c.has_two_taxa.ensures ∙ c.if-not-has_two_taxa.true))

pub returns-then-n-gt64 : goal.returns-then-n-gt64
returns-then-n-gt64 c = sym (proper-wide _ _ c.if-m-ne0.false (sym c.has_two_taxa.ensures ∙ c.if-not-has_two_taxa.false) 63 c.ranges.m.fits (omega arith))

pub returns-then-every-m : goal.returns-then-every-m
returns-then-every-m c = sym (proper-outside _ _ (omega arith))

pub returns : goal.returns
returns c =
    let k = c.every_taxon-every.ensures in
    let t = sym c.has_two_taxa.ensures ∙ c.if-not-has_two_taxa.false in
    c.has_two_taxa-2.ensures ∙ rw k (proper-others _ _ c.if-m-ne0.false t (omega arith))
