-- What "one outcome" means of a promise. A promise is the `Post` of a function's contract, made of the very terms of its `ensures`: a
-- relation of the lifetimes, the arguments, the answer, and the arguments at exit. Arguments are numbered from 1, as in the source.
--
--   Once Post Same        two outcomes that the promise allows on the same arguments are the same, as Same says
--   OnceIf Pre Post Same  the same, of arguments that the `requires` allow
--   AnswerOnce Post       they are equal in the answer; nothing else changes
--   AnswerIs Post P       every answer that the promise allows is as P says, of the arguments
--   BothWays Post         two answers that it allows, the second argument and the third exchanged, are equal
--   arg1 .. arg10         the arguments
--   SameStore t u         two lent bytes are alike in whether they are whole, in what they hold, in how many they are, and in those past
--                         the size
--   Free                  what a call leaves free in the lent bytes: nothing, one lane's own bytes, those behind the lanes, or all of the store's
--   SameBut f t u         two lent bytes are the same but for what is free; what is free is compared by what it holds
use Rattle.std.specs.Prelude.{ℕ, ◌≤◌, ◌≡◌, List, length, get_or}
use Rattle.layout.specs.Store.{size_at, held_at}
use Rattle.layout.specs.WholeStore.{whole_at}
use Rattle.feeding.specs.Feeding.{SameOutside}
use Rattle.withdrawing.specs.Withdrawn.{SameFront}

-- ---- promises

-- "prove that any two outcomes it allows are equal"
abbrev pub Once : {K A R E : Type 0} → (K → A → R → E → Type 0) → (A → R → R → E → E → Type 0) → Type 0
Once {K} {A} {R} {E} Post Same = (k : K) (x : A) (q r : R) (y z : E) → Post k x q y → Post k x r z → Same x q r y z

abbrev pub OnceIf : {K A R E : Type 0} → (K → A → Type 0) → (K → A → R → E → Type 0) → (A → R → R → E → E → Type 0) → Type 0
OnceIf {K} {A} {R} {E} Pre Post Same = (k : K) (x : A) (q r : R) (y z : E) → Pre k x → Post k x q y → Post k x r z → Same x q r y z

abbrev pub AnswerOnce : {K A R E : Type 0} → (K → A → R → E → Type 0) → Type 0
AnswerOnce Post = Once Post (λ x q r y z. q ≡ r)

abbrev pub AnswerIs : {K A R E : Type 0} → (K → A → R → E → Type 0) → (A → R → Type 0) → Type 0
AnswerIs {K} {A} {R} {E} Post P = (k : K) (x : A) (r : R) (y : E) → Post k x r y → P x r

abbrev pub BothWays : {K S T R E : Type 0} → (K → S × (T × (T × Unit {0})) → R → E → Type 0) → Type 0
BothWays {K} {S} {T} {R} {E} Post = (k : K) (s : S) (a b : T) (q r : R) (y z : E) → Post k (s, (a, (b, tt))) q y → Post k (s, (b, (a, tt))) r z → q ≡ r

-- ---- arguments

abbrev pub arg1 : {A B : Type 0} → A × B → A
arg1 x = x.0

abbrev pub arg2 : {A B C : Type 0} → A × (B × C) → B
arg2 x = x.1.0

abbrev pub arg3 : {A B C D : Type 0} → A × (B × (C × D)) → C
arg3 x = x.1.1.0

abbrev pub arg4 : {A B C D E : Type 0} → A × (B × (C × (D × E))) → D
arg4 x = x.1.1.1.0

abbrev pub arg5 : {A B C D E F : Type 0} → A × (B × (C × (D × (E × F)))) → E
arg5 x = x.1.1.1.1.0

abbrev pub arg6 : {A B C D E F G : Type 0} → A × (B × (C × (D × (E × (F × G))))) → F
arg6 x = x.1.1.1.1.1.0

abbrev pub arg7 : {A B C D E F G H : Type 0} → A × (B × (C × (D × (E × (F × (G × H)))))) → G
arg7 x = x.1.1.1.1.1.1.0

abbrev pub arg8 : {A B C D E F G H I : Type 0} → A × (B × (C × (D × (E × (F × (G × (H × I))))))) → H
arg8 x = x.1.1.1.1.1.1.1.0

abbrev pub arg9 : {A B C D E F G H I J : Type 0} → A × (B × (C × (D × (E × (F × (G × (H × (I × J)))))))) → I
arg9 x = x.1.1.1.1.1.1.1.1.0

abbrev pub arg10 : {A B C D E F G H I J K : Type 0} → A × (B × (C × (D × (E × (F × (G × (H × (I × (J × K))))))))) → J
arg10 x = x.1.1.1.1.1.1.1.1.1.0

-- ---- lent bytes

-- "Hash chains may be laid out freely, so the store is compared by what it holds"
pub record SameStore (t u : List ℕ) : Type 0 where
  pub whole : whole_at t ≡ whole_at u
  pub holding : held_at t ≡ held_at u
  pub size : length t ≡ length u
  pub behind : (i : ℕ) → size_at t ≤ i → get_or t i 0 ≡ get_or u i 0

pub data Free : Type 0 where
  nothing : Free
  lane : ℕ → Free
  table : Free
  store : Free

-- "All lent memory stays as found, save the lane emptied by a verdict or a closing"
unfoldable pub SameBut : Free → List ℕ → List ℕ → Type 0
SameBut nothing t u = t ≡ u
SameBut (lane l) t u = SameStore t u × SameOutside t l u
SameBut table t u = SameStore t u × SameFront t u
SameBut store t u = SameStore t u
