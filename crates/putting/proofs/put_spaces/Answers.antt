-- `putting::put_spaces` meets its contract. Assumes nothing.
use Rattle.std.proofs.Common.{arith, sym, ◌∙◌, ◌≡◌, ◌-◌, ℕ, min, length, take, drop, replicate, length-take-le, length-drop}
use Rattle.std.proofs.lemmas.List.{take-replicate, length-replicate}
use Rattle.putting.specs.PutLaws.{room-part, room_word, put-part}
use Rattle.putting.proofs.put_spaces.Goals as goal

pub returns : goal.returns
returns c =
    let a = c.args in
    let z = length a.out.now in
    let from = c.min-from.result in
    let n : ℕ = c.min-to.result - from in
    let m : ℕ = a.end - a.at in
    let f = c.min-from.ensures in
    let t = c.min-to.ensures in
    let q = c.requires.at_le_end in
    let e : n ≡ min m (z - from) = omega (arith, f, t, q) in
    let s : length (replicate {A = ℕ} m 32) ≡ m = length-replicate m 32 in
    let d : length (drop from a.out.now) ≡ z - from = length-drop from a.out.now in
    let k : length (take n (drop from a.out.now)) ≡ n = length-take-le n (drop from a.out.now) (omega (arith, d, e)) in
    let b : c.fill.new.self ≡ take n (replicate m 32) = c.fill.ensures.after (λ y h. h) ∙ rw k (sym (take-replicate n m 32 (omega (arith, e)))) in
    put-part (omega (arith, s, e)) (omega (arith, f, e)) (room-part z a.at m from n f e) (rw s (room_word z a.at m from n f e)) b (omega arith) (omega (arith, s, q))
