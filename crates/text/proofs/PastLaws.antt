-- What the readers past lengths, labels and closing brackets find: one law for each way through the code.
use Prim.Native.Nat.{ℕ, ◌+◌, ◌≤◌, ◌<◌}
use native.Mathlib.Omega.{arith}
use mathlib.Core.Path.{◌≡◌, refl, ap, sym, ◌∙◌, subst}
use mathlib.Core.Logic.{◌⊎◌, inl, inr, ⊎_elim}
use mathlib.Core.Bool.{Bool, true, false, not}
use mathlib.Core.List.{List, [], ◌∷◌}
use mathlib.Core.Option.{none, some}
use borrow.Author.Tests.{le-leb, lt-leb, ne_eqb}
use lib.Dec.{eqb}
use lib.ListN.{length, get_or}
use lib.Seq.{slice}
use Rattle.std.specs.Prelude.{if◌then◌else◌}
use Rattle.trees.specs.Text.{Symbol, kind, apostrophe, open_after, is_label, open_bracket, close_bracket, comma, colon, stray, token}
use Rattle.trees.specs.Tree.{Nodes, inner_with, width}
use Rattle.trees.specs.Reading.{read_length, read_label, read_closing}
use Rattle.theorems.specs.ListLaws.{less-or-not}
use Rattle.theorems.specs.QuoteLaws.{open-append, no-quote-open}
use Rattle.theorems.specs.LabelLaws.{label-closed, quote-kind}
use Rattle.text.specs.Read.{kind_no, kind_at, NoBlank, symbols_at, Skipped, LabelEnd, Parted, Unmeasured, NumberBehind, DecimalBehind, Behind, ClosingBehind}
use Rattle.text.specs.PlaceLaws.{front, front-not, mark-at, kind-there, behind}
use Rattle.text.specs.SliceLaws.{slice-parts, every-slice}

-- ---- by the first symbol

length_front : (t : Unmeasured) (ss : List Symbol) → (front ss ≡ 5 → ⊥) → read_length t ss ≡ some (t none, ss)
unfolding read_length
length_front t [] h = refl
length_front t (open_bracket ∷ r) h = refl
length_front t (close_bracket ∷ r) h = refl
length_front t (comma ∷ r) h = refl
length_front t (colon ∷ r) h = absurd (h refl)
length_front t (stray ∷ r) h = refl
length_front t (token w ∷ r) h = refl

pub colon-front : (t : Unmeasured) (ss : List Symbol) → (front ss ≡ 1 → ⊥) → read_length t (colon ∷ ss) ≡ none
unfolding read_length
colon-front t [] h = refl
colon-front t (open_bracket ∷ r) h = refl
colon-front t (close_bracket ∷ r) h = refl
colon-front t (comma ∷ r) h = refl
colon-front t (colon ∷ r) h = refl
colon-front t (stray ∷ r) h = refl
colon-front t (token w ∷ r) h = absurd (h refl)

label-front : (t : Unmeasured) (ss : List Symbol) → (front ss ≡ 1 → ⊥) → read_label t ss ≡ read_length t ss
unfolding read_label read_length
label-front t [] h = refl
label-front t (open_bracket ∷ r) h = refl
label-front t (close_bracket ∷ r) h = refl
label-front t (comma ∷ r) h = refl
label-front t (colon ∷ r) h = refl
label-front t (stray ∷ r) h = refl
label-front t (token w ∷ r) h = absurd (h refl)

token-front : (t : Unmeasured) (w : List ℕ) (ss : List Symbol) → read_label t (token w ∷ ss) ≡ read_length t ss
unfolding read_label
token-front t w ss = refl

stray-front : (t : Unmeasured) (ss : List Symbol) → read_label t (stray ∷ ss) ≡ some (t none, stray ∷ ss)
unfolding read_label read_length
stray-front t ss = refl

closing-front : (k : Nodes) (ss : List Symbol) → (front ss ≡ 3 → ⊥) → read_closing k ss ≡ none
unfolding read_closing
closing-front k [] h = refl
closing-front k (open_bracket ∷ r) h = refl
closing-front k (close_bracket ∷ r) h = absurd (h refl)
closing-front k (comma ∷ r) h = refl
closing-front k (colon ∷ r) h = refl
closing-front k (stray ∷ r) h = refl
closing-front k (token w ∷ r) h = refl

-- ---- symbols that do not reach over a place

module _ (s : List ℕ) where
  no-quote : (j : ℕ) → j < length s → (kind_at s j ≡ 1 → ⊥) → not (eqb (get_or s j 0) apostrophe) ≡ true
  no-quote j h n = ap not (ne_eqb (get_or s j 0) apostrophe (λ e. n (kind-there s j h ∙ ap (λ (x : ℕ). kind_no (kind x)) e ∙ ap kind_no quote-kind)))

  -- bytes that are of no label
  parted-other : (i r : ℕ) → i ≤ r → r ≤ length s → ((j : ℕ) → i ≤ j → j < r → kind_at s j ≡ 1 → ⊥) → Parted s i r
  parted-other i r l h f = record {
    closed = no-quote-open false (slice i r s) (every-slice (λ b. not (eqb b apostrophe)) i r s l h (λ j m n. no-quote j (omega arith) (f j m n)));
    ends = λ j m e k x. f j m (omega arith) k;
  }

  parted-skip : (i r : ℕ) → Skipped s i r → Parted s i r
  parted-skip i r p = parted-other i r p.past p.within (λ j l h k. omega (arith, p.each j l h))

  parted-mark : (i n : ℕ) → kind_at s i ≡ n → 1 < n → n < 8 → Parted s i (i + 1)
  parted-mark i n k l h = parted-other i (i + 1) (omega arith) (behind s i n k h) (λ j m o e. let z : j ≡ i = omega arith in omega (arith, sym (ap (kind_at s) z) ∙ e))

  pub parted-label : (i r : ℕ) → is_label (slice i r s) ≡ true → (kind_at s r ≡ 1 → ⊥) → Parted s i r
  parted-label i r e n = record { closed = label-closed (slice i r s) e; ends = λ j l m k x. n x }

  parted-join : (i m r : ℕ) → i ≤ m → m ≤ r → r ≤ length s → Parted s i m → Parted s m r → Parted s i r
  parted-join i m r l h w p q = record {
    closed = ap (open_after false) (slice-parts s i m l r h w) ∙ open-append false (slice i m s) (slice m r s) ∙ ap (λ (x : Bool). open_after x (slice m r s)) p.closed ∙ q.closed;
    ends = λ j n e. ⊎_elim (λ (o : j < m). let z : m ≡ r = omega arith in subst (λ (x : ℕ). kind_at s j ≡ 1 → kind_at s x ≡ 1 → ⊥) z (p.ends j n (e ∙ sym z))) (λ (o : m ≤ j). q.ends j o e) (less-or-not j m);
  }

module _ (s : List ℕ) (i : ℕ) where
  -- ---- a colon and a length, or nothing
  pub length_none : (a : ℕ) → Skipped s i a → (kind_at s a ≡ 5 → ⊥) → Behind read_length s i a
  length_none a p h = record {
    good = λ l. (none, (λ t. ap (read_length t) p.tokens ∙ length_front t (symbols_at s a) (front-not s a 5 (λ n. omega arith) p.stop h)), p.past, p.stop, parted-skip s i a p);
    fault = λ l. absurd (omega (arith, p.within));
  }

  colon-then : (a b : ℕ) → Skipped s i a → kind_at s a ≡ 5 → Skipped s (a + 1) b → symbols_at s i ≡ colon ∷ symbols_at s b
  colon-then a b p h q = p.tokens ∙ mark-at s a colon (omega arith) h ∙ ap (λ x. colon ∷ x) q.tokens

  pub length-fault : (a b e : ℕ) → Skipped s i a → kind_at s a ≡ 5 → Skipped s (a + 1) b → NumberBehind s b e → length s < e → Behind read_length s i e
  length-fault a b e p h q n l = record {
    good = λ z. absurd (omega arith);
    fault = λ z. ((n.fault l).0, λ t. ap (read_length t) (colon-then a b p h q) ∙ (n.fault l).1 t);
  }

  pub length-past : (a b e r : ℕ) → Skipped s i a → kind_at s a ≡ 5 → Skipped s (a + 1) b → NumberBehind s b e → e ≤ length s → Skipped s e r → Behind read_length s i r
  length-past a b e r p h q n l w = record {
    good = λ z. (some (slice b e s), (λ t. ap (read_length t) (colon-then a b p h q) ∙ (n.good l).0 t ∙ ap (λ x. some (t (some (slice b e s)), x)) w.tokens), omega (arith, p.past, q.past, (n.good l).1, w.past), w.stop, parted);
    fault = λ z. absurd (omega (arith, w.within));
  }
    where
      parted : Parted s i r
      parted =
          parted-join s i a r p.past (omega (arith, q.past, (n.good l).1, w.past)) w.within (parted-skip s i a p)
          (parted-join s a (a + 1) r (omega arith) (omega (arith, q.past, (n.good l).1, w.past)) w.within (parted-mark s a 5 h (omega arith) (omega arith))
          (parted-join s (a + 1) b r q.past (omega (arith, (n.good l).1, w.past)) w.within (parted-skip s (a + 1) b q)
          (parted-join s b e r (n.good l).1 w.past w.within (n.good l).2 (parted-skip s e r w))))

  -- with no blank behind it
  pub length-decimal : (a b r : ℕ) → Skipped s i a → kind_at s a ≡ 5 → Skipped s (a + 1) b → DecimalBehind s b r → r < length s → Behind read_length s i r
  length-decimal a b r p h q d l =
      let n = d.number l in
      length-past a b r r p h q n.0 d.within (record { past = omega arith; within = d.within; tokens = refl; each = λ j u v. absurd (omega arith); stop = n.1 })

  -- ---- a label or nothing
  pub label-past : (a e r : ℕ) → Skipped s i a → LabelEnd s a e → e ≤ length s → Behind read_length s e r → Behind read_label s i r
  label-past a e r p w h b = go (less-or-not a e)
    where
      to : ((t : Unmeasured) → read_label t (symbols_at s i) ≡ read_length t (symbols_at s e)) → Parted s a e → Behind read_label s i r
      to v d = record {
        good = λ l. (
          (b.good l).0,
          (λ t. v t ∙ (b.good l).1 t),
          omega (arith, p.past, w.past, (b.good l).2),
          (b.good l).3,
          parted-join s i a r p.past (omega (arith, w.past, (b.good l).2)) l (parted-skip s i a p) (parted-join s a e r w.past (b.good l).2 l d (b.good l).4),
        );
        fault = λ l. ((b.fault l).0, λ t. v t ∙ (b.fault l).1 t);
      }

      go : (a < e) ⊎ (e ≤ a) → Behind read_label s i r
      go (inl l) = let g = w.good l h in to (λ t. ap (read_label t) (p.tokens ∙ g.2) ∙ token-front t (slice a e s) (symbols_at s e)) (parted-label s a e g.1 g.3)
      go (inr l) =
          let z : a ≡ e = omega (arith, w.past) in
          to (λ t. ap (read_label t) p.tokens ∙ label-front t (symbols_at s a) (front-not s a 1 (λ n. omega arith) p.stop (w.absent z)) ∙ ap (λ (x : ℕ). read_length t (symbols_at s x)) z)
          (subst (Parted s a) z (parted-other s a a (omega arith) p.within (λ j m n. absurd (omega arith))))

  -- what is no label, and is not passed
  pub label-fault : (a e : ℕ) → Skipped s i a → LabelEnd s a e → length s < e → Behind read_label s i a
  label-fault a e p w h =
      let g = w.fault h in
      record {
        good = λ l. (none, (λ t. ap (read_label t) (p.tokens ∙ g.3) ∙ stray-front t g.2 ∙ ap (λ x. some (t none, x)) (sym g.3)), p.past, p.stop, parted-skip s i a p);
        fault = λ l. absurd (omega (arith, p.within));
      }

  -- ---- the closing bracket
  pub closing-other : (n : ℕ) → NoBlank s i → (kind_at s i ≡ 3 → ⊥) → ClosingBehind s i n (length s + 1)
  closing-other n b k = record { good = λ h. absurd (omega arith); fault = λ h. (refl, λ t z. closing-front t (symbols_at s i) (front-not s i 3 (λ x. omega arith) b k)) }

  bracket-then : kind_at s i ≡ 3 → symbols_at s i ≡ close_bracket ∷ symbols_at s (i + 1)
  bracket-then k = mark-at s i close_bracket (omega arith) k

  pub closing-few : (n : ℕ) → kind_at s i ≡ 3 → n < 2 → ClosingBehind s i n (length s + 1)
  unfolding read_closing
  closing-few n k l = record {
    good = λ h. absurd (omega arith);
    fault = λ h. (refl, λ t z. ap (read_closing t) (bracket-then k) ∙ ap (λ x. if x then read_label (inner_with t) (symbols_at s (i + 1)) else none) (lt-leb 2 (width t) (subst (λ (x : ℕ). x < 2) (sym z) l)));
  }

  pub closing-past : (n r : ℕ) → kind_at s i ≡ 3 → 2 ≤ n → Behind read_label s (i + 1) r → ClosingBehind s i n r
  unfolding read_closing
  closing-past n r k l b =
      let v : (t : Nodes) → width t ≡ n → read_closing t (symbols_at s i) ≡ read_label (inner_with t) (symbols_at s (i + 1)) =
      λ t z. ap (read_closing t) (bracket-then k) ∙ ap (λ x. if x then read_label (inner_with t) (symbols_at s (i + 1)) else none) (le-leb 2 (width t) (subst (λ (x : ℕ). 2 ≤ x) (sym z) l)) in
      record {
        good = λ h. ((b.good h).0, (λ t z. v t z ∙ (b.good h).1 (inner_with t)), omega (arith, (b.good h).2), (b.good h).3, parted-join s i (i + 1) r (omega arith) (b.good h).2 h (parted-mark s i 3 k (omega arith) (omega arith)) (b.good h).4);
        fault = λ h. ((b.fault h).0, λ t z. v t z ∙ (b.fault h).1 (inner_with t));
      }
