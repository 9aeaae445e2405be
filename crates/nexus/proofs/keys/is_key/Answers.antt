-- `nexus::keys::is_key` meets its contract. Assumes nothing.
use native.Mathlib.Omega.{arith}
use mathlib.Core.Path.{sym, ◌∙◌}
use Rattle.nexus.specs.KeyLaws.{key-same, key-unlike}
use Rattle.nexus.proofs.keys.is_key.Goals as goal

pub returns-then-z-a : goal.returns-then-z-a
returns-then-z-a c =
    let a = c.args in
    let k = c.key_at-k.ensures in
    sym
    (key-unlike a.list.now a.places.now a.i _ _ k.0 k.1 (omega arith) a.text.now a.b a.e (omega arith)
    (omega arith) (omega arith) c.if-z-a.true)

pub returns : goal.returns
returns c =
    let a = c.args in
    let k = c.key_at-k.ensures in
    c.same_runs.ensures ∙ key-same a.list.now a.places.now a.i _ _ k.0 k.1 (omega arith) a.text.now a.b a.e (omega arith)
