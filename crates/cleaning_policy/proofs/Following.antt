-- A frame within its bounds is a cleaning that readers can rely on.
use Rattle.std.proofs.Common.{◌≡◌, ◌⊎◌, ℕ, ◌+◌, ◌≤◌, List, sym, inl, inr, arith}
use Rattle.std.specs.Prelude.{ℤ, pos, ◌≤ℤ◌}
use Rattle.std.proofs.lemmas.Int.{ints}
use Rattle.cleaning_policy.specs.declared.values.Frame.{Frame}
use Rattle.cleaning_policy.specs.declared.values.Settings.{Settings}
use Rattle.cleaning_policy.specs.Histories.{Event, IsBounded, WasCleaned}
use Rattle.cleaning_policy.specs.Readers.{Act, MayFollow}
use Rattle.cleaning_policy.specs.Readers.Act.{Cleaned}
use Rattle.cleaning_policy.specs.Courses.{RepliesFollow}

low : (a b : ℤ) → a ≡ b → a ≤ℤ b
low a b e = omega (arith, ints, e)

by_deletions : (keep : ℕ) (h : List Event) (now t i : ℕ) (upto tomb_before : ℤ) (acts : List Act) → now ≤ t → RepliesFollow h i acts
    → (tomb_before ≡ pos 0) ⊎ ((s : ℕ) × WasCleaned h i s tomb_before × (s + keep ≤ now)) → MayFollow keep acts (Cleaned t upto tomb_before)
by_deletions keep h now t i upto tomb_before acts later follow (inl none) = inl (low tomb_before (pos 0) none)
by_deletions keep h now t i upto tomb_before acts later follow (inr w) =
    let pass = w.1 in
    let happened = follow w.0 pass.frame pass.of_it pass.over in
    inr (happened.at, pass.frame.upto, happened.tomb_before, happened.cleaned, low tomb_before pass.frame.upto (sym pass.as_far), omega (arith, happened.by_then, w.2, later))

pub may_follow : (o : Settings) (h : List Event) (now t : ℕ) (f : Frame) (acts : List Act) → IsBounded o h now f → now ≤ t → RepliesFollow h f.partition acts
    → MayFollow o.keep_deletes acts (Cleaned t f.upto f.tomb_before)
may_follow o h now t f acts b later follow = by_deletions o.keep_deletes h now t f.partition f.upto f.tomb_before acts later follow b.deletions
