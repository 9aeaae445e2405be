-- What is read of a NEXUS file from a place on is what is left of a file there. Assumes nothing.
--
--   LeftOk q cs o      the file o, if it is one, is what is left from the place q on
--   other-left         another block before what is left outside
--   begun-step, other_step, trees-step     one command outside the blocks, in another block, in the TREES block
--   left-sound         what is read from a place on is left of a file
use Rattle.std.specs.Prelude.{ℕ, ◌≡◌, Bool, ◌&&◌, length, if◌then◌else◌}
use Rattle.std.proofs.Common.{arith, ap, sym, ◌∙◌, subst, true≢false, leb-true}
use Rattle.std.proofs.Math.Path.{refl}
use Rattle.std.proofs.Math.Bool.{true, false}
use mathlib.Core.List.{List, [], ◌∷◌, ◌++◌, append_assoc, append-nil}
use Rattle.std.proofs.Math.Option.{Option, none, some}
use Rattle.std.proofs.Math.Dec.{leb}
use Rattle.trees.specs.Plain.{every, bytes}
use Rattle.trees.specs.Text.{is_blank, parts}
use Rattle.trees.specs.Nexus.{is_word, Pair, File, Begins, is-begin, EndsOther, NoneEnds, none-ends, not_yet, no_other, other, most_keys, MayTranslate, no-list, a-list, IsLine, IsLines, no_line, a-line}
use Rattle.trees.specs.NexusReading.{first_token, behind_first, two_tokens, ends_other, read_pairs, read_line, is_end, Place, outside, in_other, in_trees, Move, wrong, to, block_begun, listed, line_given, moved, with_pairs, with_text, closes, reads_on, reads}
use Rattle.theorems.specs.ListLaws.{by-test}
use Rattle.theorems.specs.TokenLaws.{word_some, first-stands, TwoOk, two-sound}
use Rattle.theorems.specs.CommandLaws.{ends-sound, ends-complete, PairsOk, pairs-sound, LineOk, line-sound, end-sound}
use Rattle.theorems.specs.NexusLeft.{Ended, is-ended, Lined, is-lined, is-listed, Began, is-began, nothing, LeftOutside, LeftOther, is-left, LeftTrees, Left}

-- ---- what is left, of what is read

abbrev pub LeftOk : Place → List (List ℕ) → Option File → Type 0
LeftOk q cs none = Unit {0}
LeftOk q cs (some x) = Left q cs x

-- what the rest gives, from every place on
abbrev RestOk : List (List ℕ) → (Place → Option File) → Type 0
RestOk ds on = (q : Place) → LeftOk q ds (on q)

left-map : (p q : Place) (cs ds : List (List ℕ)) → ((x : File) → Left p ds x → Left q cs x) → (o : Option File) → LeftOk p ds o → LeftOk q cs o
left-map p q cs ds f none h = tt
left-map p q cs ds f (some x) h = f x h

-- another block before what is left outside
other-ended : {c w : List ℕ} {ns : List (List ℕ)} {e : List ℕ} {ds : List (List ℕ)} → Begins c w → is_word "TREES" w ≡ false → NoneEnds ns → EndsOther e → Ended ds → Ended (c ∷ (ns ++ (e ∷ ds)))
other-ended {c} {w} {ns} {e} b f n o (is-ended us d q others blank) =
    is-ended (c ∷ (ns ++ (e ∷ us))) d
    (ap (λ (y : List (List ℕ)). c ∷ (ns ++ (e ∷ y))) q ∙ ap (λ (y : List (List ℕ)). c ∷ y) (sym (append_assoc ns (e ∷ us) (d ∷ []))))
    (other c w ns e us refl b f n o others) blank

other-began : {c w : List ℕ} {ns : List (List ℕ)} {e : List ℕ} {ds : List (List ℕ)} {x : File} → Begins c w → is_word "TREES" w ≡ false → NoneEnds ns → EndsOther e → Began ds x → Began (c ∷ (ns ++ (e ∷ ds))) x
other-began {c} {w} {ns} {e} b f n o (is-began os d v ds q others begins word listing) =
    is-began (c ∷ (ns ++ (e ∷ os))) d v ds
    (ap (λ (y : List (List ℕ)). c ∷ (ns ++ (e ∷ y))) q ∙ ap (λ (y : List (List ℕ)). c ∷ y) (sym (append_assoc ns (e ∷ os) (d ∷ ds))))
    (other c w ns e os refl b f n o others) begins word listing

other-left : (came : Bool) (c w : List ℕ) (ds : List (List ℕ)) → Begins c w → is_word "TREES" w ≡ false → (x : File) → LeftOther came ds x → LeftOutside came (c ∷ ds) x
other-left true c w ds b f x (is-left ns e us q n o l) = (subst (λ (y : List (List ℕ)). Ended (c ∷ y)) (sym q) (other-ended b f n o l.0), l.1)
other-left false c w ds b f x (is-left ns e us q n o l) = subst (λ (y : List (List ℕ)). Began (c ∷ y) x) (sym q) (other-began b f n o l)

module _ (c : List ℕ) (ds : List (List ℕ)) (on : Place → Option File) (rest : RestOk ds on) where
  -- ---- outside the blocks

  block-step : (came : Bool) (w : List ℕ) → Begins c w → is_word "TREES" w ≡ true → LeftOk (outside came) (c ∷ ds) (reads_on (if came then wrong else to (in_trees true)) on)
  unfolding reads_on
  block-step true w b e = tt
  block-step false w b e = left-map (in_trees true) (outside false) (c ∷ ds) ds (λ x l. is-began [] c w ds refl no_other b e l) (on (in_trees true)) (rest (in_trees true))

  begun-step : (came : Bool) (p : Option Pair) → TwoOk c p → LeftOk (outside came) (c ∷ ds) (reads_on (block_begun came p) on)
  unfolding block_begun reads_on
  begun-step came none t = tt
  begun-step came (some p) t =
      by-test (λ (m : Move). LeftOk (outside came) (c ∷ ds) (reads_on m on)) (is_word "BEGIN" p.0)
      (λ e. by-test (λ (m : Move). LeftOk (outside came) (c ∷ ds) (reads_on m on)) (is_word "TREES" p.1)
      (λ f. block-step came p.1 (is-begin t e) f)
      (λ f. left-map (in_other came) (outside came) (c ∷ ds) ds (other-left came c p.1 ds (is-begin t e) f) (on (in_other came)) (rest (in_other came))))
      (λ e. tt)

  -- ---- in another block

  ends-step : (came : Bool) (x : File) → ends_other c ≡ true → LeftOutside came ds x → LeftOther came (c ∷ ds) x
  ends-step came x e l = is-left [] c ds refl none-ends (ends-sound c e) l

  stays_step : (came : Bool) (x : File) → ends_other c ≡ false → LeftOther came ds x → LeftOther came (c ∷ ds) x
  stays_step came x f (is-left ns e us q n o l) =
      is-left (c ∷ ns) e us (ap (λ (y : List (List ℕ)). c ∷ y) q) (not_yet (λ k. true≢false (sym (ends-complete k) ∙ f)) n) o l

  other_step : (came : Bool) → LeftOk (in_other came) (c ∷ ds) (reads_on (if ends_other c then to (outside came) else to (in_other came)) on)
  unfolding reads_on
  other_step came =
      by-test (λ (m : Move). LeftOk (in_other came) (c ∷ ds) (reads_on m on)) (ends_other c)
      (λ e. left-map (outside came) (in_other came) (c ∷ ds) ds (λ x l. ends-step came x e l) (on (outside came)) (rest (outside came)))
      (λ e. left-map (in_other came) (in_other came) (c ∷ ds) ds (λ x l. stays_step came x e l) (on (in_other came)) (rest (in_other came)))

  -- ---- in the TREES block

  -- from lines on, whether a list of keys might have stood there or not
  lined-left : (fresh : Bool) (x : File) → Lined (c ∷ ds) x.texts → x.pairs ≡ [] → LeftTrees fresh (c ∷ ds) x
  lined-left true x l e = is-listed [] (c ∷ ds) refl (subst (MayTranslate []) (sym e) no-list) l
  lined-left false x l e = (l, e)

  end_step : (fresh : Bool) (x : File) → is_end c ≡ true → Ended ds × (x ≡ nothing) → LeftTrees fresh (c ∷ ds) x
  end_step fresh x e l =
      lined-left fresh x (is-lined [] c ds refl (subst (IsLines []) (sym (ap (λ (y : File). y.texts) l.1)) no_line) (end-sound c e) l.0)
      (ap (λ (y : File). y.pairs) l.1)

  text-lined : {t : List ℕ} {ts : List (List ℕ)} → IsLine c t → Lined ds ts → Lined (c ∷ ds) (t ∷ ts)
  text-lined i (is-lined ls e us q n o l) = is-lined (c ∷ ls) e us (ap (λ (y : List (List ℕ)). c ∷ y) q) (a-line i n) o l

  line_step : (fresh : Bool) (t : Option (List ℕ)) → LineOk c t → LeftOk (in_trees fresh) (c ∷ ds) (reads_on (line_given t) on)
  unfolding line_given reads_on with_text
  line_step fresh none i = tt
  line_step fresh (some t) i = go (on (in_trees false)) (rest (in_trees false))
    where
      go : (o : Option File) → LeftOk (in_trees false) ds o → LeftOk (in_trees fresh) (c ∷ ds) (with_text t o)
      go none l = tt
      go (some x) l = lined-left fresh (record { pairs = x.pairs; texts = t ∷ x.texts }) (text-lined i l.0) l.1

  pairs-step : (o : Option (List Pair)) → is_word "TRANSLATE" (first_token c) ≡ true → PairsOk (parts 44 false (behind_first c)) o → LeftOk (in_trees true) (c ∷ ds) (reads_on (listed o) on)
  unfolding listed reads_on with_pairs bytes
  pairs-step none e i = tt
  pairs-step (some ps) e i =
      by-test (λ (m : Move). LeftOk (in_trees true) (c ∷ ds) (reads_on m on)) (leb (length ps) most_keys) (λ f. go f (on (in_trees false)) (rest (in_trees false))) (λ f. tt)
    where
      go : leb (length ps) most_keys ≡ true → (o : Option File) → LeftOk (in_trees false) ds o → LeftOk (in_trees true) (c ∷ ds) (with_pairs ps o)
      go f none l = tt
      go f (some x) l =
          is-listed (c ∷ []) ds refl
          (subst (MayTranslate (c ∷ [])) (sym (ap (λ (y : List Pair). ps ++ y) l.1 ∙ append-nil ps))
          (a-list (first-stands c (word_some "TRANSLATE" (first_token c) e (omega arith))) e i (leb-true (length ps) most_keys f)))
          l.0

  lists-step : (fresh : Bool) → (fresh && is_word "TRANSLATE" (first_token c)) ≡ true → LeftOk (in_trees fresh) (c ∷ ds) (reads_on (listed (read_pairs (parts 44 false (behind_first c)))) on)
  lists-step true e = pairs-step (read_pairs (parts 44 false (behind_first c))) e (pairs-sound (parts 44 false (behind_first c)))
  lists-step false e = absurd (true≢false (sym e))

  trees-step : (fresh : Bool) → LeftOk (in_trees fresh) (c ∷ ds) (reads_on (moved (in_trees fresh) c) on)
  unfolding moved reads_on
  trees-step fresh =
      by-test (λ (m : Move). LeftOk (in_trees fresh) (c ∷ ds) (reads_on m on)) (is_end c)
      (λ e. left-map (outside true) (in_trees fresh) (c ∷ ds) ds (λ x l. end_step fresh x e l) (on (outside true)) (rest (outside true)))
      (λ e. by-test (λ (m : Move). LeftOk (in_trees fresh) (c ∷ ds) (reads_on m on)) (fresh && is_word "TRANSLATE" (first_token c))
      (λ f. lists-step fresh f) (λ f. line_step fresh (read_line c) (line-sound c)))

  command-step : (q : Place) → LeftOk q (c ∷ ds) (reads_on (moved q c) on)
  unfolding moved
  command-step (outside came) = begun-step came (two_tokens c) (two-sound c)
  command-step (in_other came) = other_step came
  command-step (in_trees fresh) = trees-step fresh

-- ---- all commands

closes-sound : (q : Place) (e : List ℕ) → LeftOk q (e ∷ []) (closes q e)
unfolding closes
closes-sound (outside true) e = by-test (LeftOk (outside true) (e ∷ [])) (every is_blank e) (λ b. (is-ended [] e refl no_other b, refl)) (λ b. tt)
closes-sound (outside false) e = tt
closes-sound (in_other came) e = tt
closes-sound (in_trees fresh) e = tt

pub left-sound : (q : Place) (cs : List (List ℕ)) → LeftOk q cs (reads q cs)
unfolding reads
left-sound q [] = tt
left-sound q (c ∷ []) = closes-sound q c
left-sound q (c ∷ d ∷ cs) = command-step c (d ∷ cs) (λ p. reads p (d ∷ cs)) (λ p. left-sound p (d ∷ cs)) q
