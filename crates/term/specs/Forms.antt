-- Document 01, the table of node forms, and T-03's four.
use Rattle.std.specs.Prelude.{Bool, ◌||◌, List, [], ◌∷◌, ℕ, eqb, get_or}
use Rattle.term.specs.declared.Form.{Form}

-- the column "Tag"
abbrev pub variable_tag : ℕ
variable_tag = 0

abbrev pub lambda_tag : ℕ
lambda_tag = 1

abbrev pub application_tag : ℕ
application_tag = 2

abbrev pub unit_tag : ℕ
unit_tag = 3

abbrev pub num_tag : ℕ
num_tag = 4

abbrev pub cell_tag : ℕ
cell_tag = 5

abbrev pub exch_tag : ℕ
exch_tag = 6

abbrev pub thread_tag : ℕ
thread_tag = 7

abbrev pub handle_tag : ℕ
handle_tag = 8

abbrev pub name_tag : ℕ
name_tag = 9

-- T-03: "10 pair and 11 list front", "12 and 13 take a pair or list apart"
abbrev pub pair_tag : ℕ
pair_tag = 10

abbrev pub list_tag : ℕ
list_tag = 11

abbrev pub case_pair_tag : ℕ
case_pair_tag = 12

abbrev pub case_list_tag : ℕ
case_list_tag = 13

-- T-03: "12 and 13 take a pair or list apart"
unfoldable pub is_case_tag : ℕ → Bool
is_case_tag tag = eqb tag case_pair_tag || eqb tag case_list_tag

-- how many tags there are
abbrev pub tags : ℕ
tags = 14

-- what the number after a tag refers to: nothing, a variable around, an entry of the type table, a name
abbrev pub to_nothing : ℕ
to_nothing = 0

abbrev pub to_variable : ℕ
to_variable = 1

abbrev pub to_type : ℕ
to_type = 2

abbrev pub to_name : ℕ
to_name = 3

-- the columns "After the tag", as a number of bytes, and "Subterms"; how many variables the last subterm has more than the node; what is after the tag
abbrev pub form : ℕ → ℕ → ℕ → ℕ → Form
form operand subterms binders refers = record { operand = operand; subterms = subterms; binders = binders; refers = refers }

-- the rows of the table, in the order of the tags: variable, lambda, application; unit, num; cell, exch, thread, handle; name;
-- pair, list front; the two that take these apart
unfoldable pub forms : List Form
forms =
    form 1 0 0 to_variable ∷ form 1 1 1 to_type ∷ form 0 2 0 to_nothing
    ∷ form 0 0 0 to_nothing ∷ form 2 0 0 to_nothing
    ∷ form 1 0 0 to_type ∷ form 1 0 0 to_type ∷ form 1 0 0 to_type ∷ form 1 0 0 to_type
    ∷ form 1 0 0 to_name
    ∷ form 1 2 0 to_type ∷ form 1 2 0 to_type
    ∷ form 0 2 2 to_nothing ∷ form 0 2 2 to_nothing
    ∷ []

-- the form of a tag; of an unknown one, nothing after the tag and no subterm
unfoldable pub form_of : ℕ → Form
form_of tag = get_or forms tag (form 0 0 0 to_nothing)

-- what is after a tag, in bytes
abbrev pub operand_of : ℕ → ℕ
operand_of tag = (form_of tag).operand

-- how many subterms a tag has
abbrev pub subterms_of : ℕ → ℕ
subterms_of tag = (form_of tag).subterms

-- how many more variables its last subterm has
abbrev pub binders_of : ℕ → ℕ
binders_of tag = (form_of tag).binders

-- what the number after it refers to
abbrev pub refers_of : ℕ → ℕ
refers_of tag = (form_of tag).refers
