-- The number of a cause, and the one that an answer says.
use Rattle.std.specs.Prelude.{ℕ, Result, Ok, Err}
use Rattle.calculus.specs.Causes.{file_length_cause, opening_cause, layout_cause, type_entry_cause, no_term_cause, term_size_cause, scope_cause, annotation_cause, type_cause, linearity_cause, bay_once_cause, buffer_cause, image_cause, no_thread_cause, room_cause, used_handle_cause, wrong_kind_cause, seed_cause, starting_cause, other_setting_cause, share_cause}
use Rattle.numbers.specs.declared.Cause.{Cause}
use Rattle.numbers.specs.declared.Cause.TheVariants.{FileLength, Opening, Layout, TypeEntry, NoTerm, TermSize, Scope, Annotation, «Type», Linearity, BayOnce, Buffer, Image, NoThread, Room, UsedHandle, WrongKind, Seed, Starting, OtherSetting, Share}

-- the number of a cause
abbrev pub number_of : Cause → ℕ
number_of FileLength = file_length_cause
number_of Opening = opening_cause
number_of Layout = layout_cause
number_of TypeEntry = type_entry_cause
number_of NoTerm = no_term_cause
number_of TermSize = term_size_cause
number_of Scope = scope_cause
number_of Annotation = annotation_cause
number_of «Type» = type_cause
number_of Linearity = linearity_cause
number_of BayOnce = bay_once_cause
number_of Buffer = buffer_cause
number_of Image = image_cause
number_of NoThread = no_thread_cause
number_of Room = room_cause
number_of UsedHandle = used_handle_cause
number_of WrongKind = wrong_kind_cause
number_of Seed = seed_cause
number_of Starting = starting_cause
number_of OtherSetting = other_setting_cause
number_of Share = share_cause

-- the number that an answer says: that of its cause, or 0
abbrev pub refusal_number : {A : Type 0} → Result A Cause → ℕ
refusal_number (Ok a) = 0
refusal_number (Err cause) = number_of cause
