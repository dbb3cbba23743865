use Rattle.std.proofs.Common.{◌≡◌, ℕ, List, map, sym, ap, subst, ◌∙◌, IfOk}
use Rattle.content.specs.Records.{log_records}
use Rattle.group_offsets.specs.declared.entries.Entry.{Entry}
use Rattle.group_offsets.specs.Groups.{group_keys}
use Rattle.group_offsets.specs.Walks.{entry_value, shown_keys}
use Rattle.group_offsets.proofs.ShownKeys.{same_shown}
use Rattle.group_offsets.proofs.groups.group_keys.Goals as goal

pub returns : goal.returns
unfolding group_keys
returns g c =
    subst (λ (all : List (List ℕ)). IfOk c.shown_keys.result (λ keys. map (λ key. key.now) keys.items ≡ all))
    (ap (λ (es : List Entry). shown_keys (map entry_value es)) c.deref.ensures.value ∙ ap shown_keys c.in_ok-entries.ensures ∙ sym (same_shown c.args.group.now (log_records c.args.log.now.kept)))
    c.shown_keys.ensures
