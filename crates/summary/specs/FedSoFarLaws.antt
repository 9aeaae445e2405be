-- The texts, fed in pieces, are fed as one; and the closing behind them. Assumes nothing.
--
--   none_open          no quotes are open in what was just opened
--   texts-none         nothing is fed to it
--   feeds-on           a piece more
--   closed_on          the closing leaves what the sheet of the texts is of
--   closed-never       and is not refused
--   refused-most       the refused texts are at most one more than the bytes
use Rattle.std.specs.Prelude.{ℕ, suc, ◌+◌, ◌≤◌, ◌<◌, true, false, length, Result, Ok, Err}
use native.Mathlib.Omega.{arith}
use Rattle.std.proofs.Math.Path.{◌≡◌, refl, ap, subst}
use Rattle.std.proofs.Common.{sym, ap₂, ◌∙◌}
use mathlib.Core.List.{List, [], ◌++◌}
use Rattle.std.proofs.lemmas.List.{length-replicate}
use Rattle.trees.specs.Plain.{Answer, refused, gives}
use Rattle.trees.specs.Text.{open_after, has_end}
use Rattle.trees.specs.Opening.{Opening}
use Rattle.trees.specs.Held.{Held, holding, Fed, opened, lane_of, with_lane, open_in, longer, closing}
use Rattle.trees.specs.Batch.{texts_in, is_refusal, Batched, batching, refused_in, refused_after}
use Rattle.theorems.specs.ListLaws.{keep-most}
use Rattle.theorems.specs.PieceLaws.{set-replicate, get_d-all}
use Rattle.answers.specs.declared.Refusal.{Refusal}
use Rattle.answers.specs.Answers.{number_given}
use Rattle.layout.specs.Store.{held_at}
use Rattle.layout.specs.WholeStore.{whole_at}
use Rattle.store.specs.Lent.{Holds}
use Rattle.store.specs.LentLaws.{when_whole}
use Rattle.feeding.specs.BatchLaws.{batching-length}
use Rattle.feeding.specs.Texts.{texts_at}
use Rattle.feeding.specs.CutLaws.{LaneThere, fed-open, joined, batching-opening}
use Rattle.summary.specs.declared.Summing.{Summing}
use Rattle.summary.specs.declared.Summing.TheVariants as summing
use Rattle.summary.specs.Texts.{capped, texts_fed, TextsAs, closed_count, ClosedAs}
use Rattle.summary.specs.TextsLaws.{capped-more}
use Rattle.summary.specs.PartLaws.{lane_whole, texts-most, counted, refused-append, fed-more}
use Rattle.summary.specs.Summing.{all_fed, refused_texts, FedSoFar, fed_state, FeedsAs}

-- ---- nothing yet

pub none_open : (o : Opening) → open_in (lane_of (opened o) 0) ≡ false
unfolding opened lane_of open_in open_after
none_open o = ap open_in (get_d-all o.numbers.lanes 0 (holding []))

module _ (o : Opening) (lane : 0 < o.numbers.lanes) where
  lane-opened : LaneThere (opened o) 0
  unfolding opened
  lane-opened = record { counted = lane; text = rw (length-replicate o.numbers.lanes (holding [])) lane }

  nothing-kept : with_lane (opened o) 0 (longer (lane_of (opened o) 0) []) ≡ opened o
  unfolding opened with_lane lane_of longer
  nothing-kept =
      rw (get_d-all o.numbers.lanes 0 (holding []), set-replicate o.numbers.lanes 0 (holding [])) refl

  nothing-fed : all_fed o [] ≡ record { verdicts = []; after = opened o }
  unfolding batching texts_in has_end
  nothing-fed =
      ap (λ (h : Held). record { verdicts = []; after = h })
      (ap (λ (f : Fed). f.after) (fed-open (opened o) 0 lane-opened [] refl) ∙ nothing-kept)

pub texts-none : (o : Opening) (lent s : List ℕ) → Holds (opened o) lent s → FedSoFar o [] s 0
unfolding refused_in capped opened
texts-none o lent s q =
    let l : 0 < o.numbers.lanes = subst (λ (h : Held). 0 < h.opening.numbers.lanes) q.held (lane_whole s q.whole) in
    record {
      whole = q.whole;
      held = q.held ∙ ap (λ (b : Batched). b.after) (sym (nothing-fed o l));
      count = ap (λ (b : Batched). capped (refused_in b.verdicts)) (sym (nothing-fed o l));
    }

-- ---- a piece more

module _ (o : Opening) (v s : List ℕ) (n : ℕ) (g : FedSoFar o v s n) where
  lane : 0 < o.numbers.lanes
  unfolding opened
  lane =
      subst (λ (x : Opening). 0 < x.numbers.lanes) (ap (λ (h : Held). h.opening) g.held ∙ batching-opening (texts_at (opened o) 0 v) (opened o) 0 v) (lane_whole s g.whole)

  module _ (p : List ℕ) where
    abbrev b : Batched
    b = texts_fed (held_at s) p

    both : all_fed o (v ++ p) ≡ joined (all_fed o v) b
    both = fed-more (opened o) (lane-opened o lane) v p ∙ ap (λ (h : Held). joined (all_fed o v) (texts_fed h p)) (sym g.held)

    both-refused : capped (n + refused_in b.verdicts) ≡ capped (refused_in (all_fed o (v ++ p)).verdicts)
    unfolding joined
    both-refused =
        ap (λ (k : ℕ). capped (k + refused_in b.verdicts)) g.count ∙ capped-more (refused_in (all_fed o v).verdicts) (refused_in b.verdicts)
        ∙ ap capped (sym (refused-append (all_fed o v).verdicts b.verdicts)) ∙ ap (λ (y : Batched). capped (refused_in y.verdicts)) (sym both)

    texts-on : (m : ℕ) (u : List ℕ) → TextsAs s n p (Ok m) u → FedSoFar o (v ++ p) u m
    unfolding joined number_given
    texts-on m u q =
        let x = q.holds g.whole in
        let e = q.answer ∙ counted s n p g.whole in
        let f : m ≡ capped (n + refused_in b.verdicts) = cc e in
        record { whole = x.whole; held = x.held ∙ ap (λ (y : Batched). y.after) (sym both); count = f ∙ both-refused }

    texts-never : (w : Refusal) (u : List ℕ) → TextsAs s n p (Err w) u → ⊥
    unfolding number_given
    texts-never w u q = let e = q.answer ∙ counted s n p g.whole in let z : ◌≡◌ {A = ℕ} 0 1 = cc e in omega arith

    pub feeds-on : (r : Summing) (t : List ℕ) → FeedsAs s n p r t → (m : ℕ) × (r ≡ summing.Texts m) × FedSoFar o (v ++ p) t m
    feeds-on r t f = go f.answer f.state f.fed
      where
        go : (a : Result ℕ Refusal) → r ≡ fed_state a → TextsAs s n p a t → (m : ℕ) × (r ≡ summing.Texts m) × FedSoFar o (v ++ p) t m
        go (Ok m) e q = unfold fed_state in (m, e, texts-on m t q)
        go (Err w) e q = absurd (texts-never w t q)

-- ---- how many texts are refused

after-most : (n : ℕ) (a : Answer (Unit {0})) → refused_after n a ≤ suc n
unfolding refused_after
after-most n (refused k) = omega arith
after-most n (gives x) = omega arith

-- every text, and the closing
pub refused-most : (o : Opening) (v : List ℕ) → refused_texts o v ≤ suc (length v)
unfolding refused_texts refused_in
refused-most o v =
    let b = all_fed o v in
    let n = batching-length (texts_at (opened o) 0 v) (opened o) 0 v in
    omega (arith, after-most (refused_in b.verdicts) (closing b.after 0).answer, keep-most is_refusal b.verdicts, n, texts-most (open_in (lane_of (opened o) 0)) v)

-- ---- the closing

one_more : (n : ℕ) (a : Answer (Unit {0})) → refused_after n a ≡ n + refused_after 0 a
unfolding refused_after
one_more n (refused k) = omega arith
one_more n (gives x) = omega arith

capped-after : (n : ℕ) (a : Answer (Unit {0})) → capped (refused_after (capped n) a) ≡ capped (refused_after n a)
capped-after n a = ap capped (one_more (capped n) a) ∙ capped-more n (refused_after 0 a) ∙ ap capped (sym (one_more n a))

module _ (o : Opening) (v s : List ℕ) (n : ℕ) (g : FedSoFar o v s n) where
  closed-count : closed_count s n ≡ gives (capped (refused_texts o v))
  unfolding closed_count refused_texts
  closed-count =
      when_whole s (λ h. gives (capped (refused_after n (closing h 0).answer))) g.whole
      ∙ ap gives (ap₂ (λ (k : ℕ) (h : Held). capped (refused_after k (closing h 0).answer)) g.count g.held
      ∙ capped-after (refused_in (all_fed o v).verdicts) (closing (all_fed o v).after 0).answer)

  pub closed_on : (m : ℕ) (t : List ℕ) → ClosedAs s n (Ok m) t
      → (whole_at t ≡ true) × (held_at t ≡ (closing (all_fed o v).after 0).after) × (m ≡ capped (refused_texts o v))
  unfolding number_given
  closed_on m t c =
      let x = c.holds g.whole in
      let e = c.answer ∙ closed-count in
      let f : m ≡ capped (refused_texts o v) = cc e in
      (x.whole, x.held ∙ ap (λ (h : Held). (closing h 0).after) g.held, f)

  pub closed-never : (w : Refusal) (t : List ℕ) → ClosedAs s n (Err w) t → ⊥
  unfolding number_given
  closed-never w t c = let e = c.answer ∙ closed-count in let z : ◌≡◌ {A = ℕ} 0 1 = cc e in omega arith
