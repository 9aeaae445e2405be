-- The trees of a file, fed one after another. Assumes nothing.
--
--   verdict-is         the verdict on a plain text handed whole to an empty lane
--   judges-hands       the text that stands at the front of a buffer
--   small-finished     the number of a tree that is accepted is at most 1,024
--   refusal-only, none_last     a refusal's number, and that of the last verdict where none accepts
--   Going              as many texts as the loop of `feed_lines` has fed, and the rest decides
--   going-none, going_more, going-index     none, one more, and what feeding the rest asks
--   gone               behind the last text
use Prim.Native.Nat.{ℕ, suc, ◌+◌, ◌≤◌, ◌<◌}
use Rattle.std.proofs.Math.Numerals.{add-one}
use Rattle.std.proofs.Common.{arith, ◌∙◌, inl, inr, take-append-drop, length-take-le, drop-drop, drop-set-lt, lt-ltb, le-ltb, ltb-true}
use Rattle.std.specs.Prelude.{◌≡◌, refl, ◌⊎◌, true, false, get_or, set, Result, Option}
use Rattle.std.proofs.Math.Path.{sym, ap, subst}
use mathlib.Core.List.{List, [], ◌∷◌, ◌++◌, map, append_assoc, append-nil}
use Rattle.std.proofs.Math.Option.{some}
use Rattle.std.proofs.Math.ListN.{length, take, drop, length-set}
use Rattle.std.proofs.Math.Seq.{take-suc-set}
use Rattle.trees.specs.Plain.{every, Answer, refused, gives}
use Rattle.trees.specs.Opening.{Opening, store_size}
use Rattle.trees.specs.Verdict.{Branches}
use Rattle.trees.specs.Held.{Held, holding, most_text, longer, verdict, finished, recording}
use Rattle.trees.specs.Batch.{verdict_number, is_refusal, none_accepted, with_verdict}
use Rattle.trees.specs.Nexus.{uncommented, Pair}
use Rattle.trees.specs.NexusReading.{in_trees, reads}
use Rattle.trees.specs.NexusCall.{replaced, on_text, handing}
use Rattle.theorems.specs.OwnLaneLaws.{recording-opening}
use Rattle.theorems.specs.ListLaws.{less-or-not, if-true, if-false, and_left}
use Rattle.answers.specs.Answers.{progress_given, Small}
use Rattle.head.specs.Head.{names_at, opening_at}
use Rattle.head.specs.Index.{Indexed}
use Rattle.layout.specs.Store.{size_at, held_at, held_in}
use Rattle.layout.specs.WholeStore.{whole_at}
use Rattle.layout.specs.WholeFacts.{whole-at-facts}
use Rattle.layout.specs.InsideLaws.{trees-few}
use Rattle.store.specs.Lent.{Holds}
use Rattle.store.specs.RecordedAtLaws.{trees-length}
use Rattle.feeding.specs.HoldLaws.{size-held}
use Rattle.feeding.specs.BatchLaws.{none-front, none-back}
use Rattle.nexus.specs.declared.tokens.Token.{Token}
use Rattle.nexus.specs.Places.{part, commands_at}
use Rattle.nexus.specs.Texts.{TextAs}
use Rattle.nexus.specs.Verdicts.{lane_with, Judges, Hands, LineAt, LinesAt, Feeds, FeedsLines}
use Rattle.answers.specs.declared.Refusal.{Refusal}
use Rattle.answers.specs.declared.Tree.{Tree}
pub use Rattle.nexus.specs.LineTextLaws.{line-fits, line-text, line-end, line-wrong}
use Rattle.nexus.specs.LineTextLaws.{only, texts_of}

-- ---- the verdict on a plain text

-- one that is too long is refused, quotes open or not
verdict-is : (s t : List ℕ) (n : ℕ) (p : List ℕ) → TextAs t n p → verdict (held_at s) (lane_with n p) ≡ on_text (held_at s) t
unfolding on_text verdict longer
verdict-is s t n p x = go (less-or-not most_text (length t))
  where
    go : (most_text < length t) ⊎ (length t ≤ most_text) → verdict (held_at s) (lane_with n p) ≡ verdict (held_at s) (longer (holding []) t)
    go (inl h) =
        ap (verdict (held_at s)) (if-true _ _ (lt-ltb most_text n (omega (arith, x.over h))))
        ∙ sym (ap (verdict (held_at s)) (if-true _ _ (lt-ltb most_text (length t) h)))
    go (inr h) =
        ap (verdict (held_at s))
        (if-false _ _ (le-ltb most_text n (omega (arith, (x.fits h).0))) ∙ ap holding (x.fits h).1
        ∙ sym (if-false _ _ (le-ltb most_text (length t) h)))

-- the text that stands at the front of the buffer
pub judges-hands : (s x : List ℕ) (n : ℕ) (p : List ℕ) (r : Result (Option Tree) Refusal) (t : List ℕ) → TextAs x n p → Judges s p n r t → Hands s x r t
judges-hands s x n p r t h j =
    let e = verdict-is s x n p h in
    record {
      answer = j.answer ∙ ap (finished (held_at s)) e;
      holds = subst (λ (v : Answer Branches). Holds (recording (held_at s) v) s t) e j.holds;
      found = λ k q. j.found k (e ∙ q);
    }

pub small-finished : (s : List ℕ) → whole_at s ≡ true → (v : Answer Branches) → Small (finished (held_at s) v)
unfolding Small finished
small-finished s w (refused k) = tt
small-finished s w (gives t) = omega (arith, trees-length s, trees-few s (whole-at-facts s w).head)

-- a verdict whose number is a refusal's
refusal-only : (h : Held) (v : Answer Branches) → is_refusal (verdict_number (finished h v)) ≡ true → (k : ℕ) × (v ≡ refused k)
unfolding verdict_number finished
refusal-only h (refused k) e = (k, refl)
refusal-only h (gives t) e = absurd (omega (arith, ltb-true (256 + length h.trees) 256 e))

none_last : (x : List ℕ) (v : ℕ) → none_accepted (x ++ v ∷ []) ≡ true → is_refusal v ≡ true
unfolding none_accepted every
none_last x v e = and_left (is_refusal v) true (none-back x (v ∷ []) e)

-- ---- text after text

-- i of the n trees whose lines begin at `from` are fed, the next line begins at `at`; s and v were lent, and are now t and w
pub record Going (ps : List Pair) (f : List ℕ) (from n : ℕ) (s v t w : List ℕ) (at i : ℕ) : Type 0 where
  pub reach : at ≤ length f
  pub all : List (List ℕ)
  pub rest : List (List ℕ)
  pub begun : reads (in_trees false) (commands_at f from) ≡ some (only all)
  pub read : reads (in_trees false) (commands_at f at) ≡ some (only rest)
  pub count : i + length rest ≡ n
  pub whole : whole_at t ≡ true
  pub opening : (held_at t).opening ≡ (held_at s).opening
  pub size : length t ≡ length s
  pub behind : (j : ℕ) → size_at s ≤ j → get_or t j 0 ≡ get_or s j 0
  pub found : none_accepted (take i w) ≡ true → t ≡ s
  pub room : length w ≡ length v
  pub kept : drop i w ≡ drop i v
  pub verdicts : (handing (held_at s) (map (replaced ps) all)).verdicts ≡ take i w ++ (handing (held_at t) (map (replaced ps) rest)).verdicts
  pub after : (handing (held_at s) (map (replaced ps) all)).after ≡ (handing (held_at t) (map (replaced ps) rest)).after

pub going-none : (ps : List Pair) (f : List ℕ) (from n : ℕ) (s v : List ℕ) → whole_at s ≡ true → from ≤ length f → LinesAt f from n → Going ps f from n s v s v from 0
going-none ps f from n s v w h l = record {
  reach = h;
  all = l.texts;
  rest = l.texts;
  begun = l.read;
  read = l.read;
  count = omega (arith, l.count);
  whole = w;
  opening = refl;
  size = refl;
  behind = λ j b. refl;
  found = λ e. refl;
  room = refl;
  kept = refl;
  verdicts = refl;
  after = refl;
}

module _ (ps : List Pair) (f : List ℕ) (from n : ℕ) (s v t w : List ℕ) (at i : ℕ) (g : Going ps f from n s v t w at i) where
  pub going-index : (starts links : List ℕ) → Indexed (names_at s) starts links → Indexed (names_at t) starts links
  unfolding held_in opening_at
  going-index starts links x = rw (ap (λ (o : Opening). o.names) g.opening) x

  -- the next text
  module _ (d : i < n) where
    some-text : (x : List ℕ) × (xs : List (List ℕ)) × (g.rest ≡ x ∷ xs)
    some-text = go g.rest g.count
      where
        go : (us : List (List ℕ)) → i + length us ≡ n → (x : List ℕ) × (xs : List (List ℕ)) × (us ≡ x ∷ xs)
        go [] e = absurd (omega arith)
        go (x ∷ xs) e = (x, xs, refl)

    next : List ℕ
    next = some-text.0

    later_ones : List (List ℕ)
    later_ones = some-text.1

    next-read : reads (in_trees false) (commands_at f at) ≡ some (only (next ∷ later_ones))
    unfolding next later_ones
    next-read = g.read ∙ ap (λ (us : List (List ℕ)). some (only us)) some-text.2

    module _ (k : Token) (l : LineAt f at k) (room : n ≤ length v) (r : Result (Option Tree) Refusal) (u : List ℕ)
        (j : Hands t (replaced ps (uncommented false (part k.from k.end f))) r u) (y : ℕ) (e : y ≡ verdict_number (progress_given r)) where
      line-is : uncommented false (part k.from k.end f) ≡ next
      line-is = (l.gives next later_ones next-read).1

      verdict-there : Answer Branches
      verdict-there = on_text (held_at t) (replaced ps next)

      judged-there : on_text (held_at t) (replaced ps (uncommented false (part k.from k.end f))) ≡ verdict-there
      unfolding verdict-there
      judged-there = ap (λ (b : List ℕ). on_text (held_at t) (replaced ps b)) line-is

      after-held : held_at u ≡ recording (held_at t) verdict-there
      after-held = j.holds.held ∙ ap (recording (held_at t)) judged-there

      number_is : y ≡ verdict_number (finished (held_at t) verdict-there)
      number_is = e ∙ ap verdict_number (j.answer ∙ ap (finished (held_at t)) judged-there)

      handing-on : handing (held_at t) (map (replaced ps) g.rest) ≡ with_verdict y (handing (held_at u) (map (replaced ps) later_ones))
      unfolding handing next later_ones verdict-there
      handing-on = ap (λ (us : List (List ℕ)). handing (held_at t) (map (replaced ps) us)) some-text.2 ∙ rw (← number_is, ← after-held)

      opening_on : (held_at u).opening ≡ (held_at s).opening
      opening_on = ap (λ (h : Held). h.opening) after-held ∙ recording-opening (held_at t) _ ∙ g.opening

      behind-on : (q : ℕ) → size_at s ≤ q → get_or u q 0 ≡ get_or s q 0
      behind-on q b =
          let z : store_size (recording (held_at t) (on_text (held_at t) (replaced ps (uncommented false (part k.from k.end f))))).opening.numbers ≡ size_at s =
          ap (λ (o : Opening). store_size o.numbers) (recording-opening (held_at t) _ ∙ g.opening) ∙ size-held s in
          j.holds.behind q (omega arith) ∙ g.behind q b

      found-on : none_accepted (take i w ++ y ∷ []) ≡ true → u ≡ s
      found-on q =
          let a : is_refusal y ≡ true = none_last (take i w) y q in
          let b = refusal-only (held_at t) _ (rw (e, j.answer) at a) in
          j.found b.0 b.1 ∙ g.found (none-front (take i w) (y ∷ []) q)

      pub going_more : Going ps f from n s v u (set w i y) (k.end + 1) (i + 1)
      unfolding with_verdict later_ones
      going_more =
          let z = l.gives next later_ones next-read in
          let c : length g.rest ≡ suc (length some-text.1) = ap length some-text.2 in
          record {
            reach = omega (arith, z.0);
            all = g.all;
            rest = some-text.1;
            begun = g.begun;
            read = z.2;
            count = omega (arith, g.count, c);
            whole = j.holds.whole;
            opening = opening_on;
            size = j.holds.size ∙ g.size;
            behind = behind-on;
            found = λ q. found-on (rw (add-one i, take-suc-set w i y (omega (arith, g.room))) at q);
            room = length-set w i y ∙ g.room;
            kept = rw (add-one i) (drop-set-lt (suc i) w i y (omega arith) ∙ next-kept);
            verdicts =
                g.verdicts
                ∙ rw (handing-on, add-one i, take-suc-set w i y (omega (arith, g.room))) (sym (append_assoc (take i w) (y ∷ []) _));
            after = g.after ∙ rw handing-on refl;
          }
        where
          beyond : (b : List ℕ) → drop (suc i) b ≡ drop 1 (drop i b)
          beyond b = sym (drop-drop 1 i b ∙ ap (λ (q : ℕ). drop q b) (add-one i))

          next-kept : drop (suc i) w ≡ drop (suc i) v
          next-kept = beyond w ∙ ap (drop 1) g.kept ∙ sym (beyond v)

  -- behind the last text
  module _ (d : i ≡ n) where
    none_left : g.rest ≡ []
    none_left = go g.rest g.count
      where
        go : (us : List (List ℕ)) → i + length us ≡ n → us ≡ []
        go [] e = refl
        go (x ∷ xs) e = absurd (omega arith)

    last-after : (handing (held_at s) (map (replaced ps) g.all)).after ≡ held_at t
    unfolding handing
    last-after = g.after ∙ ap (λ (us : List (List ℕ)). (handing (held_at t) (map (replaced ps) us)).after) none_left

    last-verdicts : (handing (held_at s) (map (replaced ps) g.all)).verdicts ≡ take i w
    unfolding handing
    last-verdicts =
        g.verdicts ∙ ap (λ (us : List (List ℕ)). take i w ++ (handing (held_at t) (map (replaced ps) us)).verdicts) none_left
        ∙ append-nil (take i w)

    fed : n ≤ length v → Feeds (handing (held_at s) (map (replaced ps) g.all)) s v t w
    fed room = record {
      holds = rw last-after (record {
        whole = g.whole;
        held = refl;
        size = g.size;
        behind = λ j b. g.behind j (omega (arith, ap (λ (o : Opening). store_size o.numbers) g.opening, size-held s));
      });
      verdicts = sym (take-append-drop i w) ∙ rw (last-verdicts, length-take-le i w (omega (arith, g.room)), g.kept) refl;
      found = λ q. g.found (rw last-verdicts at q);
    }

    pub gone : n ≤ length v → FeedsLines ps f from n s v t w
    unfolding texts_of
    gone room = record {
      size = g.size;
      room = g.room;
      feeds = λ ts c h.
          subst (λ (us : List (List ℕ)). Feeds (handing (held_at s) (map (replaced ps) us)) s v t w) (ap texts_of (sym g.begun ∙ h)) (fed room);
    }
