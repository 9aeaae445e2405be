use Rattle.std.proofs.Common.{◌≡◌, ℕ, ◌+◌, ◌*◌, ◌^◌, ◌≤◌, refl, ap, ◌∙◌, pow-suc, add-one, arith, pow_mono}
use Rattle.store.specs.SumLaws.{bytes-none, bytes-more, bytes-all}
use Rattle.store.proofs.sums.fill_byte.Goals as goal

pub loop-i-init : goal.loop-i-init
loop-i-init c = (omega arith, refl, omega arith, bytes-none _ _ c.args.sums.now c.requires.sums_len c.requires.b_bound)

pub constant-c-requires : goal.constant-c-requires
constant-c-requires c = record { head_at = c.requires.head_at; i_bound = omega arith }

pub double-requires : goal.double-requires
double-requires c =
    let l = c.loop-i in
    let p : 2 ^ l.i ≤ 2 ^ 7 = pow_mono {j = 7} (omega arith) in record { sums_len = l.invariant.3.long; width_bound = omega (arith, l.invariant.1, p) }

pub loop-i-preserved : goal.loop-i-preserved
loop-i-preserved c =
    let l = c.loop-i in
    let p : 2 ^ l.i ≤ 2 ^ 7 = pow_mono {j = 7} (omega arith) in
    let e : 2 ^ (l.i + 1) ≡ 2 ^ l.i * 2 = rw add-one (pow-suc 2 l.i) in (
      omega arith,
      omega (arith, l.invariant.1, e),
      omega (arith, l.invariant.1, p),
      bytes-more _ _ _ _ l.i _ _ _ l.invariant.3 l.invariant.1 c.constant-c.ensures c.double.ensures (omega (arith, l.invariant.1, p)),
    )

pub returns : goal.returns
returns c =
    let l = c.loop-i in
    let z : l.i ≡ 8 = omega arith in
    let e : l.width ≡ 256 = l.invariant.1 ∙ ap (λ (k : ℕ). 2 ^ k) z in
    bytes-all _ _ _ _ (rw e at l.invariant.3)
