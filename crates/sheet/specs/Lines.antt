-- What the functions that write a line cite.
--
--   answer_text a text     the tree that a call answered with a and left in `text`; `none`, where it refused
--   Shown a word text     that tree, and the word before it, are short, and the tree is in `text`
use Rattle.std.specs.Prelude.{ℕ, ◌≤◌, List, length, take, Result, Ok, Err}
use Rattle.trees.specs.Plain.{bytes}
use Rattle.answers.specs.declared.Refusal.{Refusal}

unfoldable pub answer_text : Result ℕ Refusal → List ℕ → List ℕ
unfolding bytes
answer_text (Ok n) text = take n text
answer_text (Err r) text = bytes "none"

unfoldable pub Shown : Result ℕ Refusal → List ℕ → List ℕ → Type 0
Shown (Ok n) word text = (length word ≤ 2000) × (n ≤ 4352) × (n ≤ length text)
Shown (Err r) word text = length word ≤ 2000
