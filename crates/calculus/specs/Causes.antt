-- Document 01, the table of causes, and those of document 02: their numbers.
use Rattle.std.specs.Prelude.{ℕ}

-- "file length outside 12 to 8,192"
abbrev pub file_length_cause : ℕ
file_length_cause = 1

-- "first two bytes, edition, or n outside 2 to 17"
abbrev pub opening_cause : ℕ
opening_cause = 2

-- "pairs break the layout; table length no multiple of 3, or outside 9 to 768"
abbrev pub layout_cause : ℕ
layout_cause = 3

-- "a type entry breaks its rule"
abbrev pub type_entry_cause : ℕ
type_entry_cause = 4

-- "a part is not exactly one term"
abbrev pub no_term_cause : ℕ
no_term_cause = 5

-- "nesting or nodes above the limit"
abbrev pub term_size_cause : ℕ
term_size_cause = 6

-- "index with no lambda, name not below b, type number not below t"
abbrev pub scope_cause : ℕ
scope_cause = 7

-- "lambda's type no function, constant's type no instance of Fig. 8 (handle as above)"
abbrev pub annotation_cause : ℕ
annotation_cause = 8

-- "application of a non-function, argument or body of another type"
abbrev pub type_cause : ℕ
type_cause = 9

-- "a once-variable not used exactly once, or free under a many-lambda"
abbrev pub linearity_cause : ℕ
linearity_cause = 10

-- "a bay's type has multiplicity once"
abbrev pub bay_once_cause : ℕ
bay_once_cause = 11

-- "out buffer under 13,826 bytes"
abbrev pub buffer_cause : ℕ
buffer_cause = 12

-- "step: image breaks a rule or limit under "The image""
abbrev pub image_cause : ℕ
image_cause = 13

-- "step: number is no thread"
abbrev pub no_thread_cause : ℕ
no_thread_cause = 14

-- "step: a rule applies, outcome above 256 names or 4,096 nodes"
abbrev pub room_cause : ℕ
room_cause = 15

-- "step: used handle applied"
abbrev pub used_handle_cause : ℕ
used_handle_cause = 16

-- "step: two values meet, neither a rule, nor waiting, nor 16"
abbrev pub wrong_kind_cause : ℕ
wrong_kind_cause = 17

-- T-06: "It refuses a seed of zero with 18"
abbrev pub seed_cause : ℕ
seed_cause = 18

-- T-07: "It refuses a starting part whose length is not twice the number of bays with 19"
abbrev pub starting_cause : ℕ
starting_cause = 19

-- T-09: "The loader refuses a bay that names another's setting with 20"
abbrev pub other_setting_cause : ℕ
other_setting_cause = 20

-- T-09: "and then a bay that starts above its share with 21"
abbrev pub share_cause : ℕ
share_cause = 21

-- T-10: "It refuses a size outside 1 to 6 with 22"
abbrev pub size_cause : ℕ
size_cause = 22
