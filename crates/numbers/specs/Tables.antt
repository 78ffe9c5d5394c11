-- The numbers of the definitions, in the order in which the code names them.
use Rattle.std.specs.Prelude.{List, [], ◌∷◌, ℕ}
use Rattle.calculus.specs.Limits.{min_file_length, max_file_length, min_parts, max_parts, max_bays, min_entries, max_entries, max_nesting, max_variables, max_recipe_nodes, max_names, max_nodes, first_head, head_length, max_node_length, max_image_length, seed_length, front_length, max_draws, min_term_nodes, max_term_nodes, max_term_length}
use Rattle.calculus.specs.Kinds.{unit_type_kind, num_type_kind, cell_type_kind, once_type_kind, many_type_kind, once_pair_kind, many_pair_kind, once_list_kind, many_list_kind, unit_entry, num_entry, setting_entry, thread_kind, cell_kind, open_handle_kind, used_handle_kind, future_kind}
use Rattle.calculus.specs.Causes.{file_length_cause, opening_cause, layout_cause, type_entry_cause, no_term_cause, term_size_cause, scope_cause, annotation_cause, type_cause, linearity_cause, bay_once_cause, buffer_cause, image_cause, no_thread_cause, room_cause, used_handle_cause, wrong_kind_cause, seed_cause, starting_cause, other_setting_cause, share_cause}
use Rattle.calculus.specs.Syntax.{pair, list}
use Rattle.calculus.specs.Reduction.{BETA, THREAD_NEW, FUTURE_DEREF, HANDLE_NEW, HANDLE_BIND, CELL_NEW, CELL_EXCH, CASE, number}

abbrev pub recipe_limits : List ℕ
recipe_limits = min_file_length ∷ max_file_length ∷ min_parts ∷ max_parts ∷ max_bays ∷ min_entries ∷ max_entries ∷ max_nesting ∷ max_variables ∷ max_recipe_nodes ∷ []

abbrev pub image_limits : List ℕ
image_limits = max_names ∷ max_nodes ∷ first_head ∷ head_length ∷ max_node_length ∷ max_image_length ∷ []

abbrev pub load_limits : List ℕ
load_limits = seed_length ∷ front_length ∷ max_draws ∷ []

abbrev pub term_limits : List ℕ
term_limits = min_term_nodes ∷ max_term_nodes ∷ max_term_length ∷ []

abbrev pub image_kinds : List ℕ
image_kinds = thread_kind ∷ cell_kind ∷ open_handle_kind ∷ used_handle_kind ∷ future_kind ∷ []

abbrev pub type_kinds : List ℕ
type_kinds = unit_type_kind ∷ num_type_kind ∷ cell_type_kind ∷ once_type_kind ∷ many_type_kind ∷ once_pair_kind ∷ many_pair_kind ∷ once_list_kind ∷ many_list_kind ∷ []

abbrev pub type_entries : List ℕ
type_entries = unit_entry ∷ num_entry ∷ setting_entry ∷ []

abbrev pub rules : List ℕ
rules = number BETA ∷ number THREAD_NEW ∷ number FUTURE_DEREF ∷ number HANDLE_NEW ∷ number HANDLE_BIND ∷ number CELL_NEW ∷ number CELL_EXCH ∷ number (CASE pair) ∷ number (CASE list) ∷ []

abbrev pub causes : List ℕ
causes =
    file_length_cause
    ∷ opening_cause
    ∷ layout_cause
    ∷ type_entry_cause
    ∷ no_term_cause
    ∷ term_size_cause
    ∷ scope_cause
    ∷ annotation_cause
    ∷ type_cause
    ∷ linearity_cause
    ∷ bay_once_cause
    ∷ buffer_cause
    ∷ image_cause
    ∷ no_thread_cause
    ∷ room_cause
    ∷ used_handle_cause
    ∷ wrong_kind_cause
    ∷ seed_cause
    ∷ starting_cause
    ∷ other_setting_cause
    ∷ share_cause
    ∷ []
