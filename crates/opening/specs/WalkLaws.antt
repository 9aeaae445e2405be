-- The laws of a walk through a name list. Assumes nothing.
--
--   names-all, names-none      the names from the start on, and past the end
--   some-name                  the names from a place of the list on are one or more
--   end-space, end_none, end-other     the end of a name, as the code finds it
use Rattle.std.specs.Prelude.{ℕ, ◌+◌, ◌-◌, ◌≤◌, ◌<◌, ◌≡◌, ◌⊎◌, Bool, true, ◌&&◌, not, eqb, length, get_or, take, drop}
use Rattle.std.proofs.Common.{add-zero, arith, sym, ◌∙◌, inl, inr, ⊎_elim, true≢false, length-take, take-append-drop, length-drop, drop_of_length-le, drop-cons, get_or-drop, le-leb, lt-ltb, eqb-true}
use Rattle.std.proofs.Math.Numerals.{add-one}
use Rattle.std.proofs.Math.Path.{refl, ap, ap₂}
use Rattle.std.proofs.Math.Bool.{false}
use mathlib.Core.List.{List, [], ◌∷◌, ◌++◌, map, append-nil}
use Rattle.std.proofs.Math.Seq.{slice, slice_empty, length-slice, get_or-append_seam}
use Rattle.std.proofs.lemmas.List.{drop-append-le}
use Rattle.std.proofs.lemmas.Bool.{lt-leb}
use Rattle.trees.specs.Plain.{every}
use Rattle.trees.specs.Text.{apostrophe, is_label_byte, turned, with_byte, parts, is_label, read_as, Symbol, token, blank, label, kind, symbols}
use Rattle.trees.specs.Names.{name_of, names_in, is_name}
use Rattle.theorems.specs.ListLaws.{equal_or_not, if-true, if-false, and_left}
use Rattle.theorems.specs.NameLaws.{label-kind, test-fails}
use Rattle.theorems.specs.LabelLaws.{label-cases, ends-nil, ends-blank, label-run}
use Rattle.theorems.specs.OutsideLaws.{Leads, leads-none, leads-more, label-leads}
use Rattle.text.specs.Read.{kind_no, kind_at, LabelEnd}
use Rattle.opening.specs.Walk.{names_from, NameEnd}

-- ---- the first part of a list

-- what stands behind the first part w of the list s, where ws are the others
abbrev Behind : List ℕ → List ℕ → List (List ℕ) → Type 0
Behind s w ws = ((s ≡ w) × (ws ≡ [])) ⊎ ((r : List ℕ) × (s ≡ w ++ 32 ∷ r) × (ws ≡ parts 32 false r))

abbrev First : Bool → List ℕ → Type 0
First q s = (w : List ℕ) × (ws : List (List ℕ)) × (parts 32 q s ≡ w ∷ ws) × Behind s w ws

behind_more : (b : ℕ) (s w : List ℕ) (ws : List (List ℕ)) → Behind s w ws → Behind (b ∷ s) (b ∷ w) ws
behind_more b s w ws (inl c) = inl (ap (λ (l : List ℕ). b ∷ l) c.0, c.1)
behind_more b s w ws (inr c) = inr (c.0, ap (λ (l : List ℕ). b ∷ l) c.1, c.2)

first_part : (q : Bool) (s : List ℕ) → First q s
unfolding parts with_byte turned
first_part q [] = ([], [], refl, inl (refl, refl))
first_part q (b ∷ s) = go q (eqb b 32) refl (first_part (turned q b) s)
  where
    more : (p : Bool) → First (turned p b) s → (not p && eqb b 32) ≡ false → First p (b ∷ s)
    more p f e = (b ∷ f.0, f.1, if-false _ _ e ∙ ap (with_byte b) f.2, behind_more b s f.0 f.1 f.3)

    go : (p : Bool) (t : Bool) → eqb b 32 ≡ t → First (turned p b) s → First p (b ∷ s)
    go true t e f = more true f refl
    go false false e f = more false f e
    go false true e f =
        let x : b ≡ 32 = eqb-true b 32 e in
        ([], parts 32 (turned false b) s, if-true _ _ e, inr (s, ap (λ (y : ℕ). y ∷ s) x, ap (λ (y : ℕ). parts 32 (turned false y) s) x))

-- a label and what stands behind it, where a space or nothing does
leads-part : {q r : Bool} {w : List ℕ} → Leads 32 q w r → (s : List ℕ) (ws : List (List ℕ)) → parts 32 r s ≡ [] ∷ ws → parts 32 q (w ++ s) ≡ w ∷ ws
unfolding parts with_byte
leads-part leads-none s ws e = e
leads-part (leads-more {b = b} e l) s ws f = if-false _ _ e ∙ ap (with_byte b) (leads-part l s ws f)

space-no-label : is_label_byte 32 ≡ false
unfolding is_label_byte
space-no-label = refl

label-parts : (w : List ℕ) → is_label w ≡ true → Leads 32 false w false
label-parts w e = label-leads 32 space-no-label refl w e

-- ---- a first part that is a label

space-blank : kind 32 ≡ blank
unfolding kind
space-blank = refl

module _ (s w : List ℕ) (ws : List (List ℕ)) (h : is_label w ≡ true) where
  -- is the first symbol
  label-token : Behind s w ws → (ss : List Symbol) × (symbols s ≡ token w ∷ ss)
  label-token (inl c) = (symbols [], ap symbols (c.0 ∙ sym (append-nil w)) ∙ label-run w [] h ends-nil)
  label-token (inr c) = (symbols (32 ∷ c.0), ap symbols c.1 ∙ label-run w (32 ∷ c.0) h (ends-blank 32 c.0 space-blank))

-- and begins with a byte of its kind
quote-kind : kind apostrophe ≡ label
unfolding kind
quote-kind = refl

label-first : (b : ℕ) (w : List ℕ) → is_label (b ∷ w) ≡ true → kind b ≡ label
unfolding every
label-first b w h = ⊎_elim (λ c. ap (λ (l : List ℕ). kind (get_or l 0 0)) c.1 ∙ quote-kind) (λ p. label-kind b (and_left (is_label_byte b) (every is_label_byte w) p)) (label-cases (b ∷ w) h)

behind-first : (s : List ℕ) (b : ℕ) (w : List ℕ) (ws : List (List ℕ)) → Behind s (b ∷ w) ws → (1 ≤ length s) × (get_or s 0 0 ≡ b)
behind-first s b w ws (inl c) = let l = ap length c.0 in (omega arith, ap (λ (l : List ℕ). get_or l 0 0) c.0)
behind-first s b w ws (inr c) = let l = ap length c.1 in (omega arith, ap (λ (l : List ℕ). get_or l 0 0) c.1)

kind-there : (s : List ℕ) (b : ℕ) (w : List ℕ) (ws : List (List ℕ)) → Behind (drop b s) w ws → is_label w ≡ true → kind_at s b ≡ 1
unfolding kind_at is_label
kind-there s b [] ws c l = absurd (true≢false (sym l))
kind-there s b (x ∷ w) ws c l =
    let g = behind-first (drop b s) x w ws c in
    let d = length-drop b s in
    rw (lt-ltb b (length s) (omega arith)) (ap (λ (y : ℕ). kind_no (kind y)) (ap (λ (i : ℕ). get_or s i 0) (sym (add-zero b)) ∙ sym (get_or-drop b s 0 0) ∙ g.1) ∙ ap kind_no (label-first x w l))

-- behind it stands nothing or a space
behind-last : (s w : List ℕ) (ws : List (List ℕ)) → Behind s w ws → (length s ≡ length w) ⊎ (get_or s (length w) 0 ≡ 32)
behind-last s w ws (inl c) = inl (ap length c.0)
behind-last s w ws (inr c) = inr (ap (λ (l : List ℕ). get_or l (length w) 0) c.1 ∙ get_or-append_seam w 32 c.0 0)

-- ---- the names of a list from a place on

no_name : (w : List ℕ) → is_label w ≡ false → is_name (name_of w) ≡ false
unfolding name_of is_name
no_name w e = ap is_name (if-false (read_as w) [] e)

module _ (s : List ℕ) where
  names_in_lem : (i : ℕ) → i ≤ length s → names_from s i ≡ map name_of (parts 32 false (drop i s))
  unfolding names_from names_in
  names_in_lem i h = if-true (names_in (drop i s)) [] (le-leb i (length s) h)

  pub names-all : names_from s 0 ≡ names_in s
  unfolding names_in
  names-all = names_in_lem 0 (omega arith)

  pub names-none : (i : ℕ) → length s < i → names_from s i ≡ []
  unfolding names_from
  names-none i h = if-false (names_in (drop i s)) [] (lt-leb i (length s) h)

  -- a name begins at every place of the list, and at its end
  pub some-name : (i : ℕ) → i ≤ length s → 1 ≤ length (names_from s i)
  some-name i h = let p = first_part false (drop i s) in let e = ap (λ (l : List (List ℕ)). length (map name_of l)) p.2 in omega (arith, ap length (names_in_lem i h))

  -- ---- a label up to a space or the end

  slice-join : (b e : ℕ) → b ≤ e → e ≤ length s → drop b s ≡ slice b e s ++ drop e s
  slice-join b e p h =
      let l = length-take e s in
      ap (drop b) (sym (take-append-drop e s)) ∙ drop-append-le b (take e s) (drop e s) (omega arith)

  module _ (b e : ℕ) (p : b ≤ e) (named : name_of (slice b e s) ≡ read_as (slice b e s)) (l : Leads 32 false (slice b e s) false) where
    ended-space : e < length s → get_or s e 0 ≡ 32 → NameEnd s b e
    unfolding parts turned
    ended-space h q =
        let d : parts 32 false (drop e s) ≡ [] ∷ parts 32 false (drop (e + 1) s) = rw (drop-cons s e 0 h, q, add-one e) refl in
        let f = ap (λ (x : List ℕ). parts 32 false x) (slice-join b e p (omega arith)) ∙ leads-part l (drop e s) _ d in
        record {
          past = p;
          good = λ _. names_in_lem b (omega arith) ∙ ap (map name_of) f ∙ ap₂ (λ (w : List ℕ) (ws : List (List ℕ)). w ∷ ws) named (sym (names_in_lem (e + 1) (omega arith)));
          bad = λ n. absurd (omega arith);
        }

    ended-end : e ≡ length s → NameEnd s b e
    unfolding parts
    ended-end q =
        let d : parts 32 false (drop e s) ≡ [] ∷ [] = rw (drop_of_length-le s {i = e} (omega arith)) refl in
        let f = ap (λ (x : List ℕ). parts 32 false x) (slice-join b e p (omega arith)) ∙ leads-part l (drop e s) [] d in
        record {
          past = p;
          good = λ _. names_in_lem b (omega arith) ∙ ap (map name_of) f ∙ ap₂ (λ (w : List ℕ) (ws : List (List ℕ)). w ∷ ws) named (sym (names-none (e + 1) (omega arith)));
          bad = λ n. absurd (omega arith);
        }

  -- ---- no label up to a space or the end

  module _ (b e : ℕ) (h : b ≤ length s) (past : length s < e) where
    ended-bad : ((w : List ℕ) (ws : List (List ℕ)) → Behind (drop b s) w ws → is_label w ≡ true → ⊥) → NameEnd s b e
    unfolding every
    ended-bad f =
        let p = first_part false (drop b s) in
        let n = no_name p.0 (test-fails (is_label p.0) (f p.0 p.1 p.3)) in
        record {
          past = omega arith;
          good = λ n. absurd (omega arith);
          bad = λ _. ap (every is_name) (names_in_lem b h ∙ ap (map name_of) p.2) ∙ ap (λ (t : Bool). t && every is_name (map name_of p.1)) n;
        }

  -- ---- the end of a name, as the code finds it

  module _ (b e : ℕ) (h : b ≤ length s) (p : LabelEnd s b e) where
    -- a label from b up to e, or none where they are one
    at_label : e ≤ length s → (name_of (slice b e s) ≡ read_as (slice b e s)) × Leads 32 false (slice b e s) false
    unfolding name_of is_label read_as
    at_label n = go (equal_or_not b e)
      where
        go : (b ≡ e) ⊎ (b ≡ e → ⊥) → (name_of (slice b e s) ≡ read_as (slice b e s)) × Leads 32 false (slice b e s) false
        go (inl q) = rw (q, slice_empty e s) (refl, leads-none)
        go (inr q) =
            let l = p.past in
            let g = p.good (omega arith) n in
            (if-true (read_as (slice b e s)) [] g.1, label-parts (slice b e s) g.1)

    pub end-space : e < length s → get_or s e 0 ≡ 32 → NameEnd s b e
    end-space n q = let a = at_label (omega arith) in ended-space b e p.past a.0 a.1 n q

    end-fault : length s < e → NameEnd s b e
    end-fault n = ended-bad b e h n (λ w ws c l.
        let t = label-token (drop b s) w ws l c in
        let f = p.fault n in
        let z : ◌≡◌ {A = ℕ} 0 1 = cc in
        absurd (omega arith))

    pub end_none : length s ≤ e → NameEnd s b e
    end_none n = go (equal_or_not e (length s))
      where
        go : (e ≡ length s) ⊎ (e ≡ length s → ⊥) → NameEnd s b e
        go (inl q) = let a = at_label (omega arith) in ended-end b e p.past a.0 a.1 q
        go (inr q) = end-fault (omega arith)

    -- a byte behind it that is no space
    pub end-other : e < length s → (get_or s e 0 ≡ 32 → ⊥) → NameEnd s b (length s + 1)
    end-other n f = ended-bad b (length s + 1) h (omega arith) (go (equal_or_not b e))
      where
        go : (b ≡ e) ⊎ (b ≡ e → ⊥) → (w : List ℕ) (ws : List (List ℕ)) → Behind (drop b s) w ws → is_label w ≡ true → ⊥
        go (inl q) w ws c l = p.absent q (kind-there s b w ws c l)
        go (inr q) w ws c l =
            let k = p.past in
            let g = p.good (omega arith) (omega arith) in
            let t = label-token (drop b s) w ws l c in
            let z : w ≡ slice b e s = cc in
            let m : length w ≡ e - b = ap length z ∙ length-slice b e s (omega arith) in
            let d = length-drop b s in
            let y : b + (e - b) ≡ e = omega arith in
            ⊎_elim (λ x. absurd (omega arith)) (λ x. f (rw (m, get_or-drop b s, y) at x)) (behind-last (drop b s) w ws c)
