-- A worked row: a policy is told an end, gives a frame, and the partition is cleaned by it; this is a timeline.
use Rattle.std.proofs.Common.{◌≡◌, ◌⊎◌, ℕ, ℤ, pos, List, [], ◌∷◌, refl, ap, subst, inl, inr, arith}
use Rattle.std.specs.List.{Contains}
use Rattle.std.proofs.lemmas.List.Elements.{Contains-push_cases}
use Rattle.cover_ranges.specs.Runs.{with_range}
use Rattle.content.specs.ByOffset.{put}
use Rattle.content.specs.Content.{empty}
use Rattle.content.specs.Parts.{part_of}
use Rattle.content.specs.Examples.{batch_0}
use Rattle.cleaning_policy.specs.declared.values.Extent.{Extent}
use Rattle.cleaning_policy.specs.declared.values.Frame.{Frame}
use Rattle.cleaning_policy.specs.declared.values.Settings.{Settings}
use Rattle.cleaning_policy.specs.Samples.{asked_samples}
use Rattle.cleaning_policy.specs.Histories.{Call, Event}
use Rattle.cleaning_policy.specs.Histories.Call.{Add, Tell, Next}
use Rattle.cleaning_policy.specs.Histories.Event.{Told, Over}
use Rattle.cleaning_courses.specs.Steps.Step.{Produce, Clean, Fetch}
use Rattle.cleaning_courses.specs.Frames.{HasEnded, IsToldOf}
use Rattle.cleaning_courses.specs.Timelines.{Moment, WasGiven, IsTimeline}
use Rattle.cleaning_courses.specs.Timelines.Moment.{Said, Happened}
use Rattle.cleaning_courses.proofs.OverTime.{told_nothing}
use Rattle.cleaning_courses.proofs.CourseRows.{times_of, value, value_is, deletion, deletion_is, first_steps, shown_steps, begun, all_ends, empty_is}

-- half dirty, a lag of 5 ms, a pass a day, deletions kept for 10 ms
abbrev settings : Settings
settings = record { percent = 50; lag = 5; within = 86400000; keep_deletes = 10 }

abbrev extent : Extent
extent = record { start = pos 0; end = pos 2; bytes = 100000 }

abbrev told_calls : List Call
told_calls = Tell 4 0 extent ∷ (Add 0 ∷ [])

-- a=1 is appended, and shown; a is deleted; the policy is told, and asked
abbrev told_moments : List Moment
told_moments = Said (Tell 4 0 extent) ∷ (Happened (Produce 3 deletion) ∷ (Happened (Fetch 2 value) ∷ (Happened (Produce 1 batch_0) ∷ (Said (Add 0) ∷ []))))

abbrev cleaned_moments : List Moment
cleaned_moments = Happened (Clean 9 (part_of (pos 2) (pos 0) (pos 0) (pos 2))) ∷ (Said (Next 9) ∷ told_moments)

end_was : HasEnded empty begun (pos 2)
unfolding put with_range
end_was = record { since = []; before = begun; are = refl; ended = refl }

offset_told : ℤ → Event → ℤ
offset_told o (Told t i x) = x.end
offset_told o (Over t f) = o

kind_of : Event → ℕ
kind_of (Told t i x) = 0
kind_of (Over t f) = 1

told_is : IsToldOf (Told 4 0 extent ∷ []) 0 empty begun
unfolding offset_told kind_of
told_is = record {
  ends = λ t x has. ended t x (Contains-push_cases [] (Told 4 0 extent) (Told t 0 x) has);
  passes = λ t f own has. absurd (other t f (Contains-push_cases [] (Told 4 0 extent) (Over t f) has));
}
  where
    ended : (t : ℕ) (x : Extent) → Contains [] (Told t 0 x) ⊎ (Told 4 0 extent ≡ Told t 0 x) → HasEnded empty begun x.end
    ended t x (inl has) = absurd (omega (arith, has.1))
    ended t x (inr is) = subst (HasEnded empty begun) (ap (offset_told (pos 2)) is) end_was

    other : (t : ℕ) (f : Frame) → Contains [] (Over t f) ⊎ (Told 4 0 extent ≡ Over t f) → ⊥
    other t f (inl has) = absurd (omega (arith, has.1))
    other t f (inr is) = absurd (omega (arith, ap kind_of is))

given : WasGiven settings (Next 9 ∷ told_calls) 9 (record { partition = 0; upto = pos 2; tomb_before = pos 0 })
unfolding asked_samples
given = record {
  since = [];
  before = told_calls;
  now = 9;
  pass = record { frame = record { partition = 0; upto = pos 2; tomb_before = pos 0 }; came = 100000 };
  are = refl;
  gave = refl;
  is = refl;
  by_then = omega arith;
}

cleaned_is : IsTimeline settings 0 empty [] cleaned_moments
unfolding put with_range
cleaned_is = (
  (given, all_ends),
  times_of 9 begun (omega arith, (omega arith, (omega arith, tt))),
  (
    told_nothing 0 empty begun,
    (told_is, ((deletion_is, refl), times_of 3 shown_steps (omega arith, (omega arith, tt)), (refl, times_of 2 first_steps (omega arith, tt), ((value_is, refl), (λ b i. absurd i), (told_nothing 0 empty [], empty_is))))),
  ),
)
