use Rattle.std.proofs.Common.{◌≡◌, Bool, true, false, cond, ◌⊎◌, inl, inr, List, Some, refl, sym, ◌∙◌, true≢false}
use Rattle.batch_codec.specs.Values.{BatchValue}
use Rattle.batch_codec.specs.Offsets.{first_offset}
use Rattle.content.specs.ByOffset.{look_up}
use Rattle.content.specs.Content.{Content, IsContent, HasSeenNone, has_seen_all, with_batch}
use Rattle.content.specs.Logs.{IsPlainLog}
use Rattle.content.specs.Copies.{IsCopy}
use Rattle.content_laws.proofs.ContentSteps.{content_with_batch}
use Rattle.content_laws.proofs.PlainLogs.{log_batch}
use Rattle.content_laws.proofs.CopyFacts.{all_or_none}
use Rattle.content_laws.proofs.CopyAdd.{copy_with_batch}
use Rattle.content_laws.proofs.copies.adding_leaves_a_copy.Goals as goal

by : (c : Content) (b : BatchValue) (log : List BatchValue) → IsContent c → IsPlainLog log → IsCopy c log → look_up first_offset (first_offset b) log ≡ Some b
    → (t : Bool) → has_seen_all c b ≡ t → (has_seen_all c b ≡ true) ⊎ HasSeenNone c b → IsCopy (cond t c (with_batch c b)) log
by c b log content plain copy there true e which = copy
by c b log content plain copy there false e (inl all) = absurd (true≢false (sym all ∙ e))
by c b log content plain copy there false e (inr none) = copy_with_batch c b log content plain copy there none (content_with_batch c b content (log_batch 0 log b plain there) none)

pub returns : goal.returns
returns c = λ x b log content plain copy there. by x b log content plain copy there (has_seen_all x b) refl (all_or_none x log content plain copy b there)
