-- The laws of bytes that are stored one after another. Assumes nothing.
--
--   put-none, put_one, put_then     no byte, one byte, and bytes behind others
--   put_as, put-to                  the same bytes, or the same end, under another name
--   put-length                      storing leaves as many bytes
--   put_front, put-taken            what is stored from the start stands at the front
--   put-part                        a word of which a buffer takes what it has room for
--   putting-start, putting-more, putting-end     a run, some bytes at a time
use Rattle.std.specs.Prelude.{ℕ, suc, ◌+◌, ◌≤◌, ◌≡◌, refl, List, [], ◌∷◌, ◌++◌, ◌⊎◌, ◌-◌, min, length, set, take, drop}
use Rattle.std.proofs.Common.{add-zero, arith, ap, sym, subst, ◌∙◌, inl, inr, length-append, length-take-le, take_all, take_at}
use Rattle.std.proofs.lemmas.Bool.{cases_lt}
use Rattle.std.proofs.lemmas.List.{take-append-drop}
use Rattle.std.proofs.lemmas.List.Edits.{sets, sets-eq}
use Rattle.std.proofs.lemmas.Slice.{put_mid-paste}
use Rattle.std.proofs.Math.Seq.{length-sets, set_out}
use borrow.Rule.Slice.PartMut.{put_mid}
use Rattle.putting.specs.Put.{Put, Putting}

sets_then : (v w l : List ℕ) (at : ℕ) → sets l at (v ++ w) ≡ sets (sets l at v) (at + length v) w
sets_then [] w l at = rw add-zero
sets_then (b ∷ v) w l at =
    let e : suc at + length v ≡ at + suc (length v) = omega arith in
    sets_then v w (set l at b) (suc at) ∙ rw e

pub put-none : (l : List ℕ) (at : ℕ) → Put l at [] l at
put-none l at = record { stored = refl; ends = omega arith }

pub put_one : {l after : List ℕ} {at b : ℕ} → after ≡ set l at b → Put l at (b ∷ []) after (at + 1)
put_one e = record { stored = e; ends = refl }

pub put_then : {l k after v w : List ℕ} {at e z : ℕ} → Put l at v k e → Put k e w after z → Put l at (v ++ w) after z
put_then {l} {k} {after} {v} {w} {at} p q =
    record {
      stored = q.stored ∙ rw (p.stored, p.ends) (sym (sets_then v w l at));
      ends = omega (arith, p.ends, q.ends, length-append v w);
    }

pub put_as : {l v w after : List ℕ} {at z : ℕ} → v ≡ w → Put l at v after z → Put l at w after z
put_as {l} {after = after} {at} {z} e p = subst (λ (x : List ℕ). Put l at x after z) e p

pub put-to : {l w after : List ℕ} {at y z : ℕ} → y ≡ z → Put l at w after z → Put l at w after y
put-to e p = record { stored = p.stored; ends = e ∙ p.ends }

pub put-length : {l v after : List ℕ} {at z : ℕ} → Put l at v after z → length after ≡ length l
put-length {l} {v} {at = at} p = ap length p.stored ∙ length-sets l at v

-- ---- the front of a buffer

module _ (l v after : List ℕ) (z : ℕ) (p : Put l 0 v after z) (h : z ≤ length l) where
  pub put_front : after ≡ v ++ drop (length v) l
  put_front =
      let e = p.ends in
      let f : 0 + length v ≡ length v = omega arith in
      p.stored ∙ sets-eq v l 0 (omega arith) ∙ ap (λ (k : ℕ). v ++ drop k l) f

  pub put-taken : take z after ≡ v
  put-taken =
      let e : length v ≡ z = omega (arith, p.ends) in
      rw put_front (take_at v (drop (length v) l) z e)

-- ---- a word of which a buffer takes what it has room for

sets-past : (w l : List ℕ) (at : ℕ) → length l ≤ at → sets l at w ≡ l
sets-past [] l at h = refl
sets-past (b ∷ w) l at h = rw (set_out l at b h) (sets-past w l (suc at) (omega arith))

-- the first n bytes of w: all, or as many as there is room for
sets-front : (l w : List ℕ) (at n : ℕ) → n ≤ length w → (n ≡ length w) ⊎ (length l ≤ at + n) → sets l at w ≡ sets l at (take n w)
sets-front l w at n h (inl e) = ap (sets l at) (sym (take_all n w (omega arith)))
sets-front l w at n h (inr e) =
    ap (sets l at) (sym (take-append-drop n w))
    ∙ sets_then (take n w) (drop n w) l at
    ∙ sets-past (drop n w) (sets l at (take n w)) (at + length (take n w)) (omega (arith, length-sets l at (take n w), length-take-le n w h))

-- no byte is stored anywhere
sets-none : (l w : List ℕ) (at from n : ℕ) → (n ≡ 0) ⊎ (from ≡ at) → sets l at (take n w) ≡ sets l from (take n w)
sets-none l w at from n (inl e) = rw e
sets-none l w at from n (inr e) = rw e

sets-part : (l v : List ℕ) (from : ℕ) → from + length v ≤ length l → sets l from v ≡ put_mid from (length v) l v
sets-part l v from h =
    sets-eq v l from h
    ∙ ap (λ (x : List ℕ). take from l ++ x ++ drop (from + length v) l) (sym (take_all (length v) v (omega arith)))
    ∙ sym (put_mid-paste from (length v) l v v (length v) refl refl refl)

module _ {l w : List ℕ} {at from n : ℕ} (h : n ≤ length w) (f : from + n ≤ length l) (p : (n ≡ 0) ⊎ (from ≡ at)) (r : (n ≡ length w) ⊎ (length l ≤ at + n)) where
  pub put-part : {mid : List ℕ} {k z : ℕ} → mid ≡ take n w → k ≡ n → z ≡ at + length w → Put l at w (put_mid from k l mid) z
  put-part m e q =
      let t : length (take n w) ≡ n = length-take-le n w h in
      let u : sets l from (take n w) ≡ put_mid from (length (take n w)) l (take n w) = sets-part l (take n w) from (omega (arith, t)) in
      record { stored = rw (m, e) (rw t at (sym (sets-front l w at n h r ∙ sets-none l w at from n p ∙ u))); ends = q }

-- how much of m bytes from `at` on there is room for among z, and from where
module _ (z at m from n : ℕ) (f : from ≡ min at z) (e : n ≡ min m (z - from)) where
  pub room-part : (n ≡ 0) ⊎ (from ≡ at)
  room-part = elim (cases_lt at z) [ inl h ↦ inr (omega (arith, f)) | inr h ↦ inl (omega (arith, f, e)) ]

  pub room_word : (n ≡ m) ⊎ (z ≤ at + n)
  room_word = elim (cases_lt m (z - from)) [ inl h ↦ inl (omega (arith, e)) | inr h ↦ inr (omega (arith, f, e)) ]

-- ---- a run

pub putting-start : (before : List ℕ) (at : ℕ) (w : List ℕ) → Putting before at w before at w
putting-start before at w = record { room = refl; stored = refl; ends = refl }

module _ {before : List ℕ} {at : ℕ} {w out : List ℕ} {e : ℕ} {v : List ℕ} (p : Putting before at w out e v) where
  pub putting-more : {u r after : List ℕ} {z : ℕ} → v ≡ u ++ r → Put out e u after z → Putting before at w after z r
  putting-more {u} {r} {after} {z} q k = record {
    room = ap length k.stored ∙ length-sets out e u ∙ p.room;
    stored = p.stored ∙ ap (sets out e) q ∙ sets_then u r out e ∙ rw (k.stored, k.ends);
    ends = omega (arith, p.ends, ap length q, length-append u r, k.ends);
  }

  pub putting-end : v ≡ [] → Put before at w out e
  putting-end q = record { stored = sym (p.stored ∙ ap (sets out e) q); ends = omega (arith, p.ends, ap length q) }
