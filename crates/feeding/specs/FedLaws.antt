-- Feeding a piece, case by case. Assumes nothing.
--
--   index_kept, lanes-kept     a lane changed: the index of the names stays right, and the lanes are as many
--   few-taxa           a whole store has at most 64 taxa
--   fed-more           a piece that ends no text: more wanted
--   fed-text           one that ends a text: the verdict on it
--   feed-not-whole, feed-no-lane, feed-well     what each return of feeding promises
use Prim.Native.Nat.{ℕ, suc, ◌+◌, ◌≤◌, ◌<◌}
use Rattle.std.proofs.Math.Numerals.{add-one}
use Rattle.std.proofs.Common.{arith, ◌∙◌, inr, set-set}
use Rattle.std.specs.Prelude.{◌≡◌, true, false, take, if◌then◌else◌, Result, Ok, Err, Option, None}
use Rattle.std.proofs.Math.Path.{refl, sym, ap, subst}
use mathlib.Core.List.{List, []}
use Rattle.std.proofs.Math.ListN.{length}
use Rattle.std.proofs.Math.Seq.{get_or-set_same}
use borrow.Author.Tests.{lt-ltb, le-ltb}
use Rattle.trees.specs.Plain.{Answer, refused, gives}
use Rattle.trees.specs.Opening.{Opening, store_size}
use Rattle.trees.specs.Held.{Held, Lane, holding, overrun, lane_of, with_lane, with_tree, open_in, longer, room_for, with_room, verdict, more_wanted, finished, recording, finishing, feeding}
use Rattle.trees.specs.Held as held
use Rattle.trees.specs.Verdict.{Branches, judged_with}
use Rattle.theorems.specs.QuoteLaws.{before-all}
use Rattle.theorems.specs.FeedingLaws.{ends_at, last_part}
use Rattle.answers.specs.declared.Refusal.TheVariants as why
use Rattle.answers.specs.declared.Fed.{Fed}
use Rattle.answers.specs.Answers.{refusal_number, progress_given}
use Rattle.head.specs.Head.{numbers_at, names_at, opening_at}
use Rattle.head.specs.Index.{Indexed}
use Rattle.layout.specs.Store.{size_at, held_at}
use Rattle.layout.specs.WholeStore.{whole_at}
use Rattle.store.specs.HeldWholeLaws.{held-numbers, texts-length, opening-facts}
use Rattle.lanes.specs.Lanes.{LaneIs}
use Rattle.text.specs.EndLaws.{before-take, unended, ended}
use Rattle.feeding.specs.Feeding.{reached, fed_of, is_accepted, FedAs}
use Rattle.feeding.specs.Texts.{Left, FedWell, verdict_on, Finished}
use Rattle.feeding.specs.HoldLaws.{size-held, lane_below, lane-holds, not-whole, no-lane, in_place, both_ways}
use Rattle.feeding.specs.FinishLaws.{opening-kept}
use Rattle.answers.specs.declared.Refusal.{Refusal}
use Rattle.answers.specs.declared.Tree.{Tree}

-- ---- a lane changed

pub index_kept : (s : List ℕ) (l : ℕ) (y : Lane) (u starts links : List ℕ) → LaneIs s l y u → Indexed (names_at s) starts links → Indexed (names_at u) starts links
unfolding opening_at
index_kept s l y u starts links c x = rw (ap (λ (o : Opening). o.names) (opening-kept s l y u c)) x

pub lanes-kept : (s : List ℕ) (l : ℕ) (y : Lane) (u : List ℕ) → LaneIs s l y u → l < (numbers_at s).lanes → l < (numbers_at u).lanes
unfolding opening_at
lanes-kept s l y u c h = rw (ap (λ (o : Opening). o.numbers.lanes) (opening-kept s l y u c)) h

pub few-taxa : (s : List ℕ) → whole_at s ≡ true → (numbers_at s).taxa ≤ 64
unfolding opening_at
few-taxa s w = (opening-facts s w).ranges.most-taxa

module _ (h : Held) (l : ℕ) (y : Lane) where
  room-lane : (a : Answer Branches) → with_room (with_lane h l y) a ≡ with_room h a
  unfolding with_room room_for with_lane
  room-lane (refused k) = refl
  room-lane (gives t) = refl

  verdict-lane : (z : Lane) → verdict (with_lane h l y) z ≡ verdict h z
  unfolding verdict
  verdict-lane (overrun q) = refl
  verdict-lane (holding x) = unfold with_lane in room-lane (judged_with h.opening.numbers.kept h.opening.names x)

  finished-lane : (a : Answer Branches) → finished (with_lane h l y) a ≡ finished h a
  unfolding finished with_lane
  finished-lane (refused k) = refl
  finished-lane (gives t) = refl

  recording-lane : (x : Lane) (a : Answer Branches) → with_lane (recording (with_lane h l y) a) l x ≡ with_lane (recording h a) l x
  unfolding recording with_lane with_tree
  recording-lane x (refused k) = ap (λ (ts : List Lane). record { opening = h.opening; trees = h.trees; lengths = h.lengths; texts = ts }) (set-set h.texts l y x)
  recording-lane x (gives t) = ap (λ (ts : List Lane). with_tree (record { opening = h.opening; trees = h.trees; lengths = h.lengths; texts = ts }) t) (set-set h.texts l y x)

  recording-size : (x : Lane) (a : Answer Branches) → (with_lane (recording h a) l x).opening ≡ h.opening
  unfolding recording with_lane with_tree
  recording-size x (refused k) = refl
  recording-size x (gives t) = refl

-- ---- feeding a lane that is there

module _ (s : List ℕ) (l : ℕ) (p : List ℕ) (m : l < (numbers_at s).lanes) where
  lane-held : (y : Lane) → lane_of (with_lane (held_at s) l y) l ≡ y
  unfolding lane_of with_lane
  lane-held y = get_or-set_same (held_at s).texts l y (holding []) (omega (arith, texts-length s))

  fed-here : feeding (held_at s) l p
      ≡ (if ends_at (held_at s) l p then finishing (held_at s) l (suc (length (last_part (held_at s) l p))) (verdict (held_at s) (longer (lane_of (held_at s) l) (last_part (held_at s) l p)))
      else record { taken = length p; answer = gives more_wanted; after = with_lane (held_at s) l (longer (lane_of (held_at s) l) p) })
  unfolding feeding
  fed-here = rw (held-numbers s, lt-ltb l (numbers_at s).lanes m)

  module _ (n : ℕ) (e : n ≡ length (last_part (held_at s) l p)) where
    taken-part : take n p ≡ last_part (held_at s) l p
    taken-part = rw e (before-take (open_in (lane_of (held_at s) l)) p)

    module _ (u : List ℕ) (c : LaneIs s l (longer (lane_of (held_at s) l) (take n p)) u) where
      pub fed-more : n ≡ length p → FedWell s l p (record { taken = n; progress = (Ok None) }) u
      unfolding progress_given is_accepted
      fed-more q =
          let x = unended (open_in (lane_of (held_at s) l)) p (omega (arith, e, q)) in
          let f : feeding (held_at s) l p ≡ record { taken = length p; answer = gives more_wanted; after = with_lane (held_at s) l (longer (lane_of (held_at s) l) p) } = fed-here ∙ rw x in
          let d : LaneIs s l (longer (lane_of (held_at s) l) p) u = subst (λ (z : List ℕ). LaneIs s l (longer (lane_of (held_at s) l) z) u) (taken-part ∙ before-all (open_in (lane_of (held_at s) l)) p x) c in
          record {
            taken = rw f q;
            answer = rw f refl;
            left = rw f (record { holds = lane-holds s l _ u m d; outside = λ z. c.outside });
          }

      module _ (q : n < length p) (r : Result (Option Tree) Refusal) (t : List ℕ) (g : Finished u l r t) where
        y : Lane
        y = longer (lane_of (held_at s) l) (last_part (held_at s) l p)

        v : Answer Branches
        v = verdict (held_at s) y

        lane-is : held_at u ≡ with_lane (held_at s) l y
        unfolding y
        lane-is = c.held ∙ ap (λ (z : List ℕ). with_lane (held_at s) l (longer (lane_of (held_at s) l) z)) taken-part

        verdict-is : verdict_on u l ≡ v
        unfolding verdict_on v
        verdict-is =
            ap (λ (h : Held). verdict h (lane_of h l)) lane-is
            ∙ ap (verdict (with_lane (held_at s) l y)) (lane-held y)
            ∙ verdict-lane (held_at s) l y y

        finished-is : finished (held_at u) (verdict_on u l) ≡ finished (held_at s) v
        finished-is = rw (lane-is, verdict-is) (finished-lane (held_at s) l y v)

        after_is : with_lane (recording (held_at u) (verdict_on u l)) l (holding []) ≡ with_lane (recording (held_at s) v) l (holding [])
        after_is = rw (lane-is, verdict-is) (recording-lane (held_at s) l y (holding []) v)

        fed-is : feeding (held_at s) l p ≡ finishing (held_at s) l (suc (length (last_part (held_at s) l p))) v
        unfolding v y
        fed-is = fed-here ∙ rw (ended (open_in (lane_of (held_at s) l)) p (omega arith))

        left_is : Left (with_lane (recording (held_at s) v) l (holding [])) s l (finished (held_at s) v) t
        left_is =
            let a : Left (with_lane (recording (held_at s) v) l (holding [])) u l (finished (held_at s) v) t = rw (finished-is, after_is) at g.left in
            let z : store_size (with_lane (recording (held_at s) v) l (holding [])).opening.numbers ≡ size_at s =
            ap (λ (o : Opening). store_size o.numbers) (recording-size (held_at s) l y (holding []) v) ∙ size-held s in
            record {
              holds = record {
                whole = a.holds.whole;
                held = a.holds.held;
                size = a.holds.size ∙ c.size;
                behind = λ i b. a.holds.behind i b ∙ c.outside i (inr (omega (arith, z, lane_below s l m)));
              };
              outside = λ f i b. a.outside f i b ∙ c.outside i b;
            }

        pub fed-text : FedWell s l p (record { taken = n + 1; progress = r }) t
        unfolding finishing
        fed-text = record {
          taken = rw (fed-is, add-one n) (ap suc e);
          answer = rw fed-is (g.answer ∙ finished-is);
          left = rw fed-is left_is;
        }

-- ---- the returns of feeding

module _ (s : List ℕ) (l : ℕ) (p : List ℕ) where
  fed-not-whole : whole_at s ≡ false → fed_of s l p ≡ record { taken = 0; answer = refused 1; after = held_at s }
  unfolding fed_of
  fed-not-whole e = rw e

  pub feed-not-whole : whole_at s ≡ false → FedAs s l p (record { taken = 0; progress = Err why.NotWhole }) s
  unfolding progress_given refusal_number
  feed-not-whole e = record {
    taken = sym (ap (λ (f : held.Fed). f.taken) (fed-not-whole e));
    answer = sym (ap (λ (f : held.Fed). f.answer) (fed-not-whole e));
    found = λ f. refl;
    holds = λ f. absurd (both_ways (reached s l) (not-whole s l e) f);
    outside = λ f i b. refl;
  }

  module _ (w : whole_at s ≡ true) where
    fed-whole : fed_of s l p ≡ feeding (held_at s) l p
    unfolding fed_of
    fed-whole = rw w

    module _ (h : (numbers_at s).lanes ≤ l) where
      fed-nowhere : feeding (held_at s) l p ≡ record { taken = 0; answer = refused 5; after = held_at s }
      unfolding feeding
      fed-nowhere = rw (held-numbers s, le-ltb l (numbers_at s).lanes h)

      pub feed-no-lane : FedAs s l p (record { taken = 0; progress = Err why.NoLane }) s
      unfolding progress_given refusal_number
      feed-no-lane = record {
        taken = sym (ap (λ (f : held.Fed). f.taken) (fed-whole ∙ fed-nowhere));
        answer = sym (ap (λ (f : held.Fed). f.answer) (fed-whole ∙ fed-nowhere));
        found = λ f. refl;
        holds = λ f. absurd (both_ways (reached s l) (no-lane s l h) f);
        outside = λ f i b. refl;
      }

    pub feed-well : (r : Fed) (t : List ℕ) → l < (numbers_at s).lanes → FedWell s l p r t → FedAs s l p r t
    feed-well r t h g = record {
      taken = rw fed-whole g.taken;
      answer = rw fed-whole g.answer;
      found = λ f. absurd (both_ways (reached s l) f (in_place s l w h));
      holds = λ f. rw fed-whole g.left.holds;
      outside = rw fed-whole g.left.outside;
    }
