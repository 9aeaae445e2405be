-- What becomes of a lane as the code changes its bytes. Assumes nothing.
--
--   emptied          its length is made 0
--   ran_over         its length is made one that says that it ran over
--   runs-over        the piece does not fit: it ran over, and quotes are open as they are behind the piece
--   holds_more       the piece is copied behind the held bytes, and the length put
use Rattle.std.specs.Prelude.{ℕ, ◌+◌, ◌≤◌, ◌<◌, ◌≡◌, refl, ◌⊎◌, Bool, true, leb, get_or, take, drop}
use native.Mathlib.Omega.{arith}
use Rattle.std.proofs.Common.{sym, ap, ap₂, subst, ◌∙◌, inl, inr, length-drop, length-append, length-take-le, take-add, drop-drop}
use Rattle.std.proofs.Math.Logic.{⊎_elim}
use Rattle.std.proofs.Math.Bool.{false}
use mathlib.Core.List.{List, [], ◌++◌}
use Rattle.std.proofs.Math.ListN.{length}
use Rattle.std.proofs.Math.Seq.{take-length}
use borrow.Author.Tests.{lt-ltb, le-ltb, leb-true, leb-false}
use Rattle.trees.specs.Text.{open_after}
use Rattle.trees.specs.Opening.{lane_bytes}
use Rattle.trees.specs.Held.{Lane, holding, overrun, lane_of, open_in, longer, most_text}
use Rattle.theorems.specs.ListLaws.{less-or-not}
use Rattle.theorems.specs.QuoteLaws.{open-append}
use Rattle.fields.specs.Field.{number, put}
use Rattle.fields.specs.FieldLaws.{put-length, put-outside, number_put}
use Rattle.fields.specs.Run.{copied}
use Rattle.fields.specs.RunLaws.{copied-length, copied-inside, copied-outside}
use Rattle.head.specs.Head.{numbers_at}
use Rattle.layout.specs.Store.{lane_from, text_from, held_at, ran_over_open}
use Rattle.layout.specs.KeptLaws.{run-same}
use Rattle.layout.specs.WholeStore.{whole_at}
use Rattle.lanes.specs.Lanes.{LaneIs, over_length}
use Rattle.lanes.specs.LaneLaws.{text-over, text-holds, lane-end, lane-overrun, lane-holding}
use Rattle.lanes.specs.LaneChangeLaws.{lane-changed}

module _ (s : List ℕ) (w : whole_at s ≡ true) (l : ℕ) (m : l < (numbers_at s).lanes) (bytes : (i : ℕ) → get_or s i 0 < 256) where
  ends : lane_from l + lane_bytes ≤ length s
  ends = lane-end s w l m

  -- ---- the piece p is copied behind n bytes of text, and the length v put

  module _ (p : List ℕ) (n v : ℕ) (room : n + length p ≤ most_text) where
    abbrev with-piece : List ℕ
    with-piece = copied s (lane_from l + 8 + n) p 0 (length p)

    abbrev done : List ℕ
    done = put 2 with-piece (lane_from l) v

    size : length with-piece ≡ length s
    size = copied-length s (lane_from l + 8 + n) p 0 (length p)

    done-kept : (i : ℕ) → (i < lane_from l) ⊎ (lane_from l + 2 ≤ i) → (i < lane_from l + 8 + n) ⊎ (lane_from l + 8 + n + length p ≤ i) → get_or done i 0 ≡ get_or s i 0
    done-kept i g h = put-outside 2 with-piece (lane_from l) v i g ∙ copied-outside s (lane_from l + 8 + n) p 0 (length p) i h

    done-outside : (i : ℕ) → (i < lane_from l) ⊎ (lane_from l + lane_bytes ≤ i) → get_or done i 0 ≡ get_or s i 0
    done-outside i (inl h) = done-kept i (inl h) (inl (omega arith))
    done-outside i (inr h) = done-kept i (inr (omega arith)) (inr (omega arith))

    done-text : take (n + length p) (drop (lane_from l + 8) done) ≡ take n (drop (lane_from l + 8) s) ++ p
    done-text =
        let a = lane_from l + 8 in
        let z = put-length 2 with-piece (lane_from l) v ∙ size in
        take-add n (length p) (drop a done)
        ∙ ap₂ (λ (x y : List ℕ). x ++ y)
        (run-same done s a a n (omega (arith, ends)) (omega (arith, ends)) (λ i h. done-kept (a + i) (inr (omega arith)) (inl (omega arith))))
        (ap (take (length p)) (drop-drop n a done)
        ∙ run-same done p (a + n) 0 (length p) (omega (arith, ends)) (omega arith) (λ i h.
        put-outside 2 with-piece (lane_from l) v (a + n + i) (inr (omega arith))
        ∙ copied-inside s (a + n) p 0 (length p) (a + n + i) (0 + i) (omega (arith, ends)) (omega arith) (omega arith) (omega arith) (omega arith))
        ∙ take-length p)

    done-is : v ≤ ran_over_open → (x : Lane) → (number 2 done (lane_from l) ≡ v → text_from done (lane_from l) ≡ x) → LaneIs s l x done
    done-is h x f =
        let e = number_put 2 with-piece (lane_from l) v (omega (arith, ends, size)) (omega arith) in
        lane-changed s w l m bytes done (put-length 2 with-piece (lane_from l) v ∙ size) done-outside v x e h (f e)

  -- the length alone
  length-is : (v : ℕ) → v ≤ ran_over_open → (x : Lane) → (number 2 (put 2 s (lane_from l) v) (lane_from l) ≡ v → text_from (put 2 s (lane_from l) v) (lane_from l) ≡ x)
      → LaneIs s l x (put 2 s (lane_from l) v)
  unfolding copied
  length-is v = done-is [] 0 v (omega arith)

  pub emptied : LaneIs s l (holding []) (put 2 s (lane_from l) 0)
  emptied = length-is 0 (omega arith) (holding []) (λ e. text-holds (put 2 s (lane_from l) 0) (lane_from l) (omega arith) ∙ rw e)

  pub ran_over : (q : Bool) → LaneIs s l (overrun q) (put 2 s (lane_from l) (over_length q))
  ran_over q = length-is (over_length q) (over-most q) (overrun q) (text-over (put 2 s (lane_from l) (over_length q)) (lane_from l) q)
    where
      over-most : (q : Bool) → over_length q ≤ ran_over_open
      over-most true = unfold over_length in omega arith
      over-most false = unfold over_length in omega arith

  -- ---- as the code has it: n the length

  module _ (p : List ℕ) (n : ℕ) (is : n ≡ number 2 s (lane_from l)) where
    abbrev after : Lane
    after = longer (lane_of (held_at s) l) p

    abbrev text : List ℕ
    text = take n (drop (lane_from l + 8) s)

    -- how long the text is with the piece behind it
    text-length : n ≤ most_text → length (text ++ p) ≡ n + length p
    text-length h = length-append text p ∙ ap (λ (k : ℕ). k + length p) (length-take-le n (drop (lane_from l + 8) s) (omega (arith, ends, length-drop (lane_from l + 8) s)))

    over-after : most_text < n + length p → after ≡ overrun (open_after (open_in (lane_of (held_at s) l)) p)
    unfolding longer open_in
    over-after h =
        ⊎_elim
        (λ (g : most_text < n). rw (lane-overrun s w l m n is g) refl)
        (λ (g : n ≤ most_text).
        rw (lane-holding s w l m n is g, lt-ltb most_text (length (text ++ p)) (omega (arith, text-length g))) (ap overrun (open-append false text p)))
        (less-or-not most_text n)

    pub runs-over : leb (n + length p) most_text ≡ false → (q : Bool) → q ≡ open_after (open_in (lane_of (held_at s) l)) p → {t : List ℕ} → LaneIs s l (overrun q) t → LaneIs s l after t
    runs-over h q e {t} c = subst (λ (x : Lane). LaneIs s l x t) (ap overrun e ∙ sym (over-after (leb-false (n + length p) most_text h))) c

    pub holds_more : leb (n + length p) most_text ≡ true → (from : ℕ) → from ≡ lane_from l → {u t : List ℕ} → u ≡ copied s (from + 8 + n) p 0 (length p) → t ≡ put 2 u from (n + length p) → LaneIs s l after t
    unfolding longer
    holds_more h from at {u} {t} e f =
        let k : n + length p ≤ most_text = leb-true (n + length p) most_text h in
        rw (f, e, at)
        (done-is p n (n + length p) k (omega arith) after (λ q.
        text-holds (done p n (n + length p) k) (lane_from l) (omega arith)
        ∙ rw (q, done-text p n (n + length p) k, lane-holding s w l m n is (omega arith), le-ltb most_text (length (text ++ p)) (omega (arith, text-length (omega arith))))))
