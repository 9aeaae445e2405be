-- The laws of names in their places. Assumes nothing.
--
--   lies-name, lies-kept       a name that lies in its place is read there, and stays where its bytes do
--   placed-long, placed-short  a label that was read into its place
--   reached-none, reached-more, reached-all     the names of a list, as the loop reads them
--   reached-many, reached-bad, reached-long, reached-fewer     a list whose names are not good
use Rattle.std.specs.Prelude.{ℕ, ◌+◌, ◌*◌, ◌≤◌, ◌<◌, ◌≡◌, refl, Bool, true, ◌&&◌, List, [], ◌∷◌, ◌++◌, length, get_or, set, take, drop}
use Rattle.std.proofs.Common.{arith, sym, ◌∙◌, subst, inl, inr, ⊎_elim, true≢false, append-nil, append_assoc, length-take, length-drop, length-append, length-take-le, take_all, get_or-set_same, get_or-set_other, get_or-take, get_or-drop, ext_get_or, ne_eqb}
use Rattle.std.proofs.Math.Path.{ap}
use Rattle.std.proofs.Math.Bool.{false}
use Rattle.std.proofs.Math.ListN.{get_or-append}
use Rattle.std.proofs.Math.Seq.{slice, length-sets, take-length}
use Rattle.std.proofs.lemmas.List.Edits.{sets}
use Rattle.std.proofs.lemmas.List.{get_or_at}
use Rattle.trees.specs.Plain.{every}
use Rattle.trees.specs.Text.{read_as}
use Rattle.trees.specs.Names.{most_name, names_in, is_name, good_names}
use Rattle.theorems.specs.ListLaws.{less-or-not, and_right}
use Rattle.theorems.specs.NameLaws.{is_name-short, test-fails}
use Rattle.theorems.specs.OpeningLaws.{named}
use Rattle.fields.specs.Run.{copied}
use Rattle.fields.specs.RunLaws.{copied-inside, copied-outside}
use Rattle.text.specs.Labels.{ReadInto}
use Rattle.head.specs.Head.{from_to, up_to, name_at}
use Rattle.head.specs.HeadLaws.{up_to-length, up_to-at}
use Rattle.opening.specs.Walk.{names_from, NameEnd}
use Rattle.opening.specs.WalkLaws.{names-all, names-none, some-name}
use Rattle.opening.specs.Places.{first_names, Lies, Placed, Reached}

-- ---- a name that lies in its place

pub lies-name : (s : List ℕ) (i : ℕ) (w : List ℕ) → Lies s i w → 17 + 33 * i + length w ≤ length s → name_at s i ≡ w
unfolding name_at
lies-name s i w p f =
    let d = length-drop (17 + 33 * i) s in
    let n : length (take (length w) (drop (17 + 33 * i) s)) ≡ length w = length-take-le (length w) (drop (17 + 33 * i) s) (omega arith) in
    rw p.size
    (ext_get_or 0 _ w n (λ j h.
    let l : j < length w = omega arith in
    rw (get_or-take, get_or-drop) (p.bytes j l)))

-- a name stays where its bytes do
pub lies-kept : (s t : List ℕ) (i : ℕ) (w : List ℕ) → length w ≤ 32
    → ((j : ℕ) → 16 + 33 * i ≤ j → j < 49 + 33 * i → get_or t j 0 ≡ get_or s j 0) → Lies s i w → Lies t i w
lies-kept s t i w short h p =
    record {
      size = h (16 + 33 * i) (omega arith) (omega arith) ∙ p.size;
      bytes = λ j l. h (17 + 33 * i + j) (omega arith) (omega arith) ∙ p.bytes j l;
    }

name-kept : (s t : List ℕ) (i : ℕ) → get_or s (16 + 33 * i) 0 ≤ 32 → 49 + 33 * i ≤ length s → length t ≡ length s
    → ((j : ℕ) → 16 + 33 * i ≤ j → j < 49 + 33 * i → get_or t j 0 ≡ get_or s j 0) → name_at t i ≡ name_at s i
unfolding name_at
name-kept s t i n f l h =
    let a = length-drop (17 + 33 * i) s in
    let b = length-drop (17 + 33 * i) t in
    let x = length-take-le (get_or s (16 + 33 * i) 0) (drop (17 + 33 * i) s) (omega arith) in
    let y = length-take-le (get_or s (16 + 33 * i) 0) (drop (17 + 33 * i) t) (omega arith) in
    rw (h (16 + 33 * i) (omega arith) (omega arith))
    (ext_get_or 0 _ _ (y ∙ sym x) (λ j k.
    let m : j < get_or s (16 + 33 * i) 0 = omega arith in
    rw (get_or-take, get_or-take, get_or-drop, get_or-drop) (h (17 + 33 * i + j) (omega arith) (omega arith))))

-- ---- a label that was read into its place

module _ (s : List ℕ) (i : ℕ) (w : List ℕ) where
  -- the bytes as far as a name reaches
  abbrev taken : List ℕ
  taken = take most_name w

  abbrev stored : List ℕ
  stored = sets s (17 + 33 * i) taken

  as-copied : stored ≡ copied s (17 + 33 * i) taken 0 (length taken)
  unfolding copied
  as-copied = ap (sets s (17 + 33 * i)) (sym (take-length taken))

  stored-before : (j : ℕ) → j < 17 + 33 * i → get_or stored j 0 ≡ get_or s j 0
  stored-before j h = rw as-copied (copied-outside s (17 + 33 * i) taken 0 (length taken) j (inl h))

  stored-behind : (j : ℕ) → 49 + 33 * i ≤ j → get_or stored j 0 ≡ get_or s j 0
  stored-behind j h = let n = length-take most_name w in rw as-copied (copied-outside s (17 + 33 * i) taken 0 (length taken) j (inr (omega arith)))

  stored-inside : 49 + 33 * i ≤ length s → (j : ℕ) → j < length taken → get_or stored (17 + 33 * i + j) 0 ≡ get_or taken j 0
  stored-inside f j h =
      let n = length-take most_name w in
      rw as-copied
      (copied-inside s (17 + 33 * i) taken 0 (length taken) (17 + 33 * i + j) j (omega arith) (omega arith) (omega arith) (omega arith) (omega arith))

  module _ (u : List ℕ) (r : ℕ) (p : ReadInto s (17 + 33 * i) w r u) where
    pub placed-long : 32 < r → Placed s i w false u
    placed-long h =
        let n = p.counted in
        record {
          kept = λ j c. ap (λ (l : List ℕ). get_or l j 0) p.stored ∙ ⊎_elim (λ k. stored-before j (omega arith)) (λ k. stored-behind j k) c;
          short = λ z. absurd (true≢false (sym z));
          long = λ _. omega arith;
        }

    pub placed-short : 49 + 33 * i ≤ length s → r ≤ 32 → Placed s i w true (set u (16 + 33 * i) r)
    placed-short f h =
        let n = p.counted in
        let l = ap length p.stored ∙ length-sets s (17 + 33 * i) taken in
        let m : length w ≡ r = omega arith in
        let t : taken ≡ w = take_all most_name w (omega arith) in
        let k = ap length t in
        record {
          kept = λ j c.
              get_or-set_other u (16 + 33 * i) j r 0 (λ e. ⊎_elim (λ k. omega arith) (λ k. omega arith) c)
              ∙ ap (λ (l : List ℕ). get_or l j 0) p.stored ∙ ⊎_elim (λ k. stored-before j (omega arith)) (λ k. stored-behind j k) c;
          short = λ _. (
            omega arith,
            record {
              size = get_or-set_same u (16 + 33 * i) r 0 (omega arith) ∙ sym m;
              bytes = λ j c.
                  get_or-set_other u (16 + 33 * i) (17 + 33 * i + j) r 0 (λ e. omega arith)
                  ∙ ap (λ (l : List ℕ). get_or l (17 + 33 * i + j) 0) p.stored
                  ∙ stored-inside f j (omega arith) ∙ ap (λ (l : List ℕ). get_or l j 0) t;
            },
          );
          long = λ z. absurd (true≢false z);
        }

-- ---- one name more

module _ (t u : List ℕ) (i : ℕ) (w : List ℕ) (p : Placed t i w true u) (f : 49 + 33 * i ≤ length t) (l : length u ≡ length t)
    (room : (j : ℕ) → j < i → get_or t (16 + 33 * j) 0 ≤ most_name) where
  room-more : (j : ℕ) → j < i + 1 → get_or u (16 + 33 * j) 0 ≤ most_name
  room-more j h = ⊎_elim (λ k. before k) (λ k. here (omega arith)) (less-or-not j i)
    where
      before : j < i → get_or u (16 + 33 * j) 0 ≤ most_name
      before k = rw (p.kept (16 + 33 * j) (inl (omega arith))) (room j k)

      here : j ≡ i → get_or u (16 + 33 * j) 0 ≤ most_name
      here e = let c = p.short refl in rw (e, c.1.size) c.0

  names_more : first_names (i + 1) u ≡ first_names i t ++ w ∷ []
  names_more =
      let a = up_to-length (name_at t) i in
      let b = up_to-length (name_at u) (i + 1) in
      let c = length-append (first_names i t) (w ∷ []) in
      ext_get_or [] _ _ (omega arith) (λ j h. up_to-at (name_at u) (i + 1) j [] (omega arith) ∙ ⊎_elim (λ k. before j k) (λ k. here j (omega arith)) (less-or-not j i))
    where
      before : (j : ℕ) → j < i → name_at u j ≡ get_or (first_names i t ++ w ∷ []) j []
      before j k =
          let a = up_to-length (name_at t) i in
          name-kept t u j (room j k) (omega arith) l (λ m x y. p.kept m (inl (omega arith)))
          ∙ sym (up_to-at (name_at t) i j [] k) ∙ sym (get_or-append (first_names i t) (w ∷ []) [] j (omega arith))

      here : (j : ℕ) → j ≡ i → name_at u j ≡ get_or (first_names i t ++ w ∷ []) j []
      here j e =
          let c = p.short refl in
          rw e (lies-name u i w c.1 (omega arith) ∙ sym (get_or_at (first_names i t) w [] [] i (up_to-length (name_at t) i)))

-- ---- the names of a list, one after another

every-behind : (vs ws : List (List ℕ)) → every is_name (vs ++ ws) ≡ true → every is_name ws ≡ true
unfolding every
every-behind [] ws e = e
every-behind (v ∷ vs) ws e = every-behind vs ws (and_right (is_name v) (every is_name (vs ++ ws)) e)

miscounted : (n : ℕ) (ns : List (List ℕ)) → (length ns ≡ n → ⊥) → good_names n ns ≡ false
unfolding good_names
miscounted n ns f = rw (ne_eqb (length ns) n f)

module _ (list : List ℕ) where
  pub reached-none : (t : List ℕ) → Reached list 0 0 t
  unfolding up_to from_to
  reached-none t = record { room = λ j h. absurd (omega arith); names = names-all list }

  module _ (at i : ℕ) (t : List ℕ) (p : Reached list at i t) where
    reached-count : i + length (names_from list at) ≡ length (names_in list)
    reached-count = omega (arith, ap length p.names, length-append (first_names i t) (names_from list at), up_to-length (name_at t) i)

    -- one name is too many
    pub reached-many : at ≤ length list → good_names i (names_in list) ≡ false
    reached-many h = miscounted i (names_in list) (λ e. omega (arith, reached-count, some-name list at h))

    pub reached-bad : (n : ℕ) → every is_name (names_from list at) ≡ false → good_names n (names_in list) ≡ false
    reached-bad n e =
        test-fails (good_names n (names_in list)) (λ g.
        true≢false (sym (every-behind (first_names i t) (names_from list at) (ap (every is_name) p.names ∙ (named n (names_in list) g).names)) ∙ e))

    module _ (e : ℕ) (q : NameEnd list at e) (h : e ≤ length list) where
      pub reached-long : (n : ℕ) → most_name < length (read_as (slice at e list)) → good_names n (names_in list) ≡ false
      unfolding every
      reached-long n k =
          let w = read_as (slice at e list) in
          let f : is_name w ≡ false = test-fails (is_name w) (λ x. omega (arith, is_name-short w x)) in
          reached-bad n (ap (every is_name) (q.good h) ∙ ap (λ (b : Bool). b && every is_name (names_from list (e + 1))) f)

      pub reached-more : (u : List ℕ) (r : Bool) → r ≡ true → Placed t i (read_as (slice at e list)) r u → 49 + 33 * i ≤ length t → length u ≡ length t
          → Reached list (e + 1) (i + 1) u
      reached-more u r g d f l =
          let w = read_as (slice at e list) in
          let c = subst (λ (b : Bool). Placed t i w b u) g d in
          record {
            room = room-more t u i w c f l p.room;
            names =
                ap (λ (ns : List (List ℕ)). ns ++ names_from list (e + 1)) (names_more t u i w c f l p.room)
                ∙ append_assoc (first_names i t) (w ∷ []) (names_from list (e + 1))
                ∙ ap (λ (ns : List (List ℕ)). first_names i t ++ ns) (sym (q.good h)) ∙ p.names;
          }

    -- ---- past the end of the list

    module _ (h : length list < at) where
      pub reached-all : first_names i t ≡ names_in list
      reached-all = sym (append-nil (first_names i t)) ∙ ap (λ (ns : List (List ℕ)). first_names i t ++ ns) (sym (names-none list at h)) ∙ p.names

      pub reached-fewer : (n : ℕ) → (i ≡ n → ⊥) → good_names n (names_in list) ≡ false
      reached-fewer n f = miscounted n (names_in list) (λ e. f (omega (arith, reached-count, ap length (names-none list at h))))
