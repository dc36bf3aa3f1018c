-- Three times six bytes put, one behind the other, are the bytes of the set.
use mathlib.Core.Path.{ap, ◌∙◌}
use mathlib.Core.List.{List}
use Prim.Native.Nat.{ℕ, ◌+◌}
use Rattle.sets.specs.Entries.{list_of, put}
use Rattle.sets.proofs.Lists.{put_set}
use Rattle.sets.proofs.put_bytes.Goals as goal

pub returns : goal.returns
returns c =
    let at = c.args.at in
    c.put_six-3.ensures
    ∙ ap (λ (w : List ℕ). put w (at + 12) (list_of c.into-3.result))
    (c.put_six-2.ensures ∙ ap (λ (w : List ℕ). put w (at + 6) (list_of c.into-2.result)) c.put_six.ensures)
    ∙ put_set c.args.bytes.now at c.args.q (record { luma = c.into.result; cb = c.into-2.result; cr = c.into-3.result }) c.requires
    (record { luma = c.into.ensures; cb = c.into-2.ensures; cr = c.into-3.ensures })
