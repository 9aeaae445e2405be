use Prim.Native.Nat.{ℕ}
use mathlib.Core.Path.{◌≡◌, ◌∙◌}
use native.Mathlib.Omega.{arith}
use lib.ListN.{length-replicate}
use Rattle.sheet.specs.SheetLaws.{sheet-length}
use Rattle.putting.specs.PutLaws.{put-length, put-taken}
use Rattle.sheet.specs.RunLaws.{run-start, run_more, run_end, run-full, run_length}
use Rattle.sheet.proofs.run.put_lines.Goals as goal

pub loop-j-init : goal.loop-j-init
loop-j-init c = (length-replicate {A = ℕ} 8192 0, run-start _ _ _)

pub write_line-n-requires : goal.write_line-n-requires
write_line-n-requires c = record { s_value = c.requires.s_value; j_bound = omega (arith, c.requires.all_value, c.loop-j-test.true) }

pub overflow_sub-out : goal.overflow_sub-out
overflow_sub-out c = omega (arith, run_length _ _ _ c.loop-j.invariant.1, c.loop-j.invariant.1.fits)

pub shape_of-out-then-out-at : goal.shape_of-out-then-out-at
shape_of-out-then-out-at c = run_length _ _ _ c.loop-j.invariant.1

pub returns-then-out-at : goal.returns-then-out-at
returns-then-out-at c =
    let l = c.loop-j in
    let h = sheet-length _ c.requires.s_value c.args.refused in
    run-full _ _ _ l.invariant.1 _ _ (omega (arith, h, c.requires.all_value, c.loop-j-test.true)) (put-taken l.text _ _ _ c.write_line-n.ensures.put (omega (arith, c.write_line-n.ensures.upper_bound, l.invariant.0)))
    (omega (arith, c.write_line-n.ensures.upper_bound, l.invariant.0, put-length c.write_line-n.ensures.put)) c.if-out-at.true

pub slice_bounds-copy_from-end : goal.slice_bounds-copy_from-end
slice_bounds-copy_from-end c = omega (arith, c.loop-j.invariant.0, put-length c.write_line-n.ensures.put)

pub copy_from-requires : goal.copy_from-requires
copy_from-requires c = let l = c.loop-j in record { n_in_bounds = omega (arith, c.if-out-at.false, run_length _ _ _ l.invariant.1, l.invariant.1.fits); n_in_bounds_2 = omega (arith, c.write_line-n.ensures.upper_bound, l.invariant.0, put-length c.write_line-n.ensures.put) }

pub overflow_add-at : goal.overflow_add-at
overflow_add-at c =
    let l = c.loop-j in
    omega (arith, c.if-out-at.false, run_length _ _ _ l.invariant.1, l.invariant.1.fits, c.well_formed)

pub loop-j-preserved : goal.loop-j-preserved
loop-j-preserved c =
    let l = c.loop-j in
    let h = sheet-length _ c.requires.s_value c.args.refused in
    let n = put-length c.write_line-n.ensures.put in (
      n ∙ l.invariant.0,
      run_more _ _ _ l.invariant.1 _ _ (omega (arith, h, c.requires.all_value, c.loop-j-test.true)) (put-taken l.text _ _ _ c.write_line-n.ensures.put (omega (arith, c.write_line-n.ensures.upper_bound, l.invariant.0)))
          (omega (arith, c.write_line-n.ensures.upper_bound, l.invariant.0, n)) (omega (arith, c.if-out-at.false)) c.copy_from.ensures,
    )

pub shape_of-out : goal.shape_of-out
shape_of-out c = run_length _ _ _ c.loop-j.invariant.1

pub returns : goal.returns
returns c =
    let e : c.args.all ≡ c.loop-j.j = omega (arith, c.requires.from_le_all, c.loop-j-test.false) in
    rw e (run_end _ _ _ c.loop-j.invariant.1 (omega (arith, sheet-length _ c.requires.s_value c.args.refused, c.requires.all_value, c.loop-j-test.false)))
