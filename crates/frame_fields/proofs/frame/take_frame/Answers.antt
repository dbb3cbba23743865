use Rattle.std.proofs.Common.{rules, inl, inr, refl, ap, ℕ, ◌+◌, List, take, drop, Some, Ok}
use Rattle.frame_fields.specs.Frames.{IsFirstFrame, IsIncomplete, SizeFault}
use Rattle.frame_fields.proofs.FramesCut.{first_once, first_not_incomplete, first_not_refused, incomplete_is_not_refused, one_refusal}
use Rattle.frame_fields.proofs.frame.take_frame.Goals as goal

pub returns-in_err-size-clause-complete_frame_is_taken :
    goal.returns-in_err-size-clause-complete_frame_is_taken
returns-in_err-size-clause-complete_frame_is_taken g c = λ frame rest first.
    let bytes = c.args.buffer.now.items in
    let fault : SizeFault c.in_err-size.field-0.0 bytes = search rules in
    absurd (first_not_refused frame bytes rest c.in_err-size.field-0.0 first fault)

pub returns-in_err-size-clause-incomplete_is_none :
    goal.returns-in_err-size-clause-incomplete_is_none
returns-in_err-size-clause-incomplete_is_none g c = λ incomplete.
    let bytes = c.args.buffer.now.items in
    let fault : SizeFault c.in_err-size.field-0.0 bytes = search rules in
    absurd (incomplete_is_not_refused bytes c.in_err-size.field-0.0 incomplete fault)

pub returns-in_err-size-clause-bad_size_is_refused :
    goal.returns-in_err-size-clause-bad_size_is_refused
returns-in_err-size-clause-bad_size_is_refused g c = λ e second.
    let bytes = c.args.buffer.now.items in
    let fault : SizeFault c.in_err-size.field-0.0 bytes = search rules in
    let same = one_refusal bytes c.in_err-size.field-0.0 e fault second in
    search (rules, same)

pub returns-in_default-clause-complete_frame_is_taken :
    goal.returns-in_default-clause-complete_frame_is_taken
returns-in_default-clause-complete_frame_is_taken g c = λ frame rest first.
    let bytes = c.args.buffer.now.items in
    let incomplete : IsIncomplete bytes = search rules in
    absurd (first_not_incomplete frame bytes rest first incomplete)

pub returns-in_default-clause-bad_size_is_refused :
    goal.returns-in_default-clause-bad_size_is_refused
returns-in_default-clause-bad_size_is_refused g c = λ e fault.
    let bytes = c.args.buffer.now.items in
    let incomplete : IsIncomplete bytes = search rules in
    absurd (incomplete_is_not_refused bytes e incomplete fault)

pub returns-in-Ok-clause-frame_is_the_first : goal.returns-in-Ok-clause-frame_is_the_first
returns-in-Ok-clause-frame_is_the_first c = search rules

pub returns-in-Ok-clause-complete_frame_is_taken :
    goal.returns-in-Ok-clause-complete_frame_is_taken
returns-in-Ok-clause-complete_frame_is_taken g c = λ frame rest first.
    let left = c.freeze_to.new.self.items in
    let taken : IsFirstFrame c.advance.new.self c.args.buffer.now.items left = search rules in
    inl (ap (λ (x : List ℕ). Ok (Some x)) (first_once c.advance.new.self frame c.args.buffer.now.items left rest taken first).0)

pub returns-in-Ok-clause-incomplete_is_none : goal.returns-in-Ok-clause-incomplete_is_none
returns-in-Ok-clause-incomplete_is_none g c = λ incomplete.
    let bytes = c.args.buffer.now.items in
    let first : IsFirstFrame (drop 4 (take (4 + c.in-Some.size) bytes)) bytes (drop (4 + c.in-Some.size) bytes) = search rules in
    absurd (first_not_incomplete _ bytes _ first incomplete)

pub returns-in-Ok-clause-bad_size_is_refused : goal.returns-in-Ok-clause-bad_size_is_refused
returns-in-Ok-clause-bad_size_is_refused g c = λ e fault.
    let bytes = c.args.buffer.now.items in
    let first : IsFirstFrame (drop 4 (take (4 + c.in-Some.size) bytes)) bytes (drop (4 + c.in-Some.size) bytes) = search rules in
    absurd (first_not_refused _ bytes _ e first fault)

pub returns-in-Err-clause-complete_frame_is_taken :
    goal.returns-in-Err-clause-complete_frame_is_taken
returns-in-Err-clause-complete_frame_is_taken g c = λ frame rest first. inr refl

pub returns-in-Err-clause-incomplete_is_none : goal.returns-in-Err-clause-incomplete_is_none
returns-in-Err-clause-incomplete_is_none g c = λ incomplete.
    let bytes = c.args.buffer.now.items in
    let first : IsFirstFrame (drop 4 (take (4 + c.in-Some.size) bytes)) bytes (drop (4 + c.in-Some.size) bytes) = search rules in
    absurd (first_not_incomplete _ bytes _ first incomplete)

pub returns-in-Err-clause-bad_size_is_refused : goal.returns-in-Err-clause-bad_size_is_refused
returns-in-Err-clause-bad_size_is_refused g c = λ e fault.
    let bytes = c.args.buffer.now.items in
    let first : IsFirstFrame (drop 4 (take (4 + c.in-Some.size) bytes)) bytes (drop (4 + c.in-Some.size) bytes) = search rules in
    absurd (first_not_refused _ bytes _ e first fault)
