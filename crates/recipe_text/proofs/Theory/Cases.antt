-- Document 01, "For case A": the two lines, computed; and the one line of refused files, with a number of one digit and of two.
use Rattle.std.specs.Prelude.{◌≡◌, refl, List, [], ◌∷◌, map, ℕ}
use Rattle.calculus.specs.Bytes.{two_bytes, word}
use Rattle.calculus.specs.Image.{nodes}
use Rattle.calculus.specs.Lists.{each_below, sum_below, tabulate}
use Rattle.calculus.specs.Names.{uses}
use Rattle.calculus.specs.Recipe.{bay_types, loaded, with_type}
use Rattle.calculus.specs.Table.{distinct_test, entries_test, entry_is, entry_test, entry_stands, new_to, same_entry, table_test, test_entry, is_many}
use Rattle.calculus.specs.Verdict.{annotated, annotated_const, applied_number, const_number, every, lambda_number, both_number, case_number, with_components, linear, linear_variable, on_cell, on_function, on_number, on_once_function, outside_many, result_number, scoped, scoped_const, type_number}
use Rattle.calculus.specs.Owners.{first_owners}
use Rattle.term.specs.Expressions.{bytes, const_bytes, exp_of, leaf_exp, leaf_forms, nesting, op_tag, both_tag, case_tag, term_of, two_exp, two_forms}
use Rattle.term.specs.Forms.{form_of, forms}
use Rattle.term.specs.Numbers.{little_endian, value_of}
use Rattle.term.specs.Reader.{one_term, read, read_term, of_edition}
use Rattle.term.specs.Tree.{forms_below}
use Rattle.recipe_file.specs.File.{bays, cause_1, cause_2, cause_3, edition_of, length_of, offset_of, opens, outside, pairs_test, part, parts, table_bytes, table_length_test, term_bytes}
use Rattle.recipe_file.specs.Starting.{cause_19, starting_bytes, starting_num, starting_nums}
use Rattle.recipe_table.specs.Entries.{cause_4, table_of, type_table}
use Rattle.image_layout.specs.Encoded.{expressions, head, heads, image_bytes}
use Rattle.image.specs.Configuration.{encode, image_of, encode_all}
use Rattle.check_spec.specs.Bays.{bay_term, bay_terms, cause_5, cause_6}
use Rattle.check_spec.specs.Verdict.{refusal, verdict_of}
use Rattle.load_spec.specs.Starting.{starting_image}
use Rattle.text.specs.Ascii.{decimal, verdict_line}
use Rattle.recipe_text.specs.Text.{hexadecimal, hexadecimal_byte, image_line, text_of}

-- document 01, "Bay cases": the files of A, H and D
abbrev file_A : List ℕ
file_A =
    0x4C ∷ 0x46 ∷ 0x01 ∷ 0x02 ∷ 0x0C ∷ 0x00 ∷ 0x09 ∷ 0x00 ∷ 0x15 ∷ 0x00 ∷ 0x01 ∷ 0x00 ∷ 0x00 ∷ 0x00 ∷ 0x00 ∷ 0x01 ∷ 0x00 ∷ 0x00 ∷ 0x02 ∷ 0x01
    ∷ 0x00 ∷ 0x03 ∷ []

abbrev file_H : List ℕ
file_H =
    0x4C ∷ 0x46 ∷ 0x01 ∷ 0x02 ∷ 0x0C ∷ 0x00 ∷ 0x09 ∷ 0x00 ∷ 0x15 ∷ 0x00 ∷ 0x02 ∷ 0x00 ∷ 0x00 ∷ 0x00 ∷ 0x00 ∷ 0x01 ∷ 0x00 ∷ 0x00 ∷ 0x02 ∷ 0x01
    ∷ 0x00 ∷ 0x00 ∷ 0x00 ∷ []

abbrev file_D : List ℕ
file_D =
    0x4C ∷ 0x46 ∷ 0x01 ∷ 0x02 ∷ 0x0C ∷ 0x00 ∷ 0x15 ∷ 0x00 ∷ 0x21 ∷ 0x00 ∷ 0x03 ∷ 0x00 ∷ 0x00 ∷ 0x00 ∷ 0x00 ∷ 0x01 ∷ 0x00 ∷ 0x00 ∷ 0x02 ∷ 0x01
    ∷ 0x00 ∷ 0x03 ∷ 0x01 ∷ 0x00 ∷ 0x04 ∷ 0x03 ∷ 0x00 ∷ 0x04 ∷ 0x01 ∷ 0x04 ∷ 0x04 ∷ 0x05 ∷ 0x00 ∷ 0x01 ∷ 0x04 ∷ 0x03 ∷ []

-- "verdict 0", "image 020002000E00030001001100010004000003"
abbrev text_A : List ℕ
text_A =
    0x76 ∷ 0x65 ∷ 0x72 ∷ 0x64 ∷ 0x69 ∷ 0x63 ∷ 0x74 ∷ 0x20 ∷ 0x30 ∷ 0x0A ∷ 0x69 ∷ 0x6D ∷ 0x61 ∷ 0x67 ∷ 0x65 ∷ 0x20 ∷ 0x30 ∷ 0x32 ∷ 0x30 ∷ 0x30
    ∷ 0x30 ∷ 0x32 ∷ 0x30 ∷ 0x30 ∷ 0x30 ∷ 0x45 ∷ 0x30 ∷ 0x30 ∷ 0x30 ∷ 0x33 ∷ 0x30 ∷ 0x30 ∷ 0x30 ∷ 0x31 ∷ 0x30 ∷ 0x30 ∷ 0x31 ∷ 0x31 ∷ 0x30 ∷ 0x30
    ∷ 0x30 ∷ 0x31 ∷ 0x30 ∷ 0x30 ∷ 0x30 ∷ 0x34 ∷ 0x30 ∷ 0x30 ∷ 0x30 ∷ 0x30 ∷ 0x30 ∷ 0x33 ∷ 0x0A ∷ []

-- "verdict 7"
abbrev text_H : List ℕ
text_H = 0x76 ∷ 0x65 ∷ 0x72 ∷ 0x64 ∷ 0x69 ∷ 0x63 ∷ 0x74 ∷ 0x20 ∷ 0x37 ∷ 0x0A ∷ []

-- "verdict 10"
abbrev text_D : List ℕ
text_D = 0x76 ∷ 0x65 ∷ 0x72 ∷ 0x64 ∷ 0x69 ∷ 0x63 ∷ 0x74 ∷ 0x20 ∷ 0x31 ∷ 0x30 ∷ 0x0A ∷ []

-- "For case A"; "H ● 00 00: refused 7"; "D ● T7, 01 04 03: refused 10"
cases : map text_of (file_A ∷ file_H ∷ file_D ∷ []) ≡ text_A ∷ text_H ∷ text_D ∷ []
unfolding text_of verdict_line image_line hexadecimal hexadecimal_byte decimal verdict_of refusal bay_terms bay_term cause_5 cause_6 cause_4 table_of type_table word bays parts offset_of length_of part table_bytes term_bytes outside cause_1 opens edition_of cause_2 pairs_test table_length_test cause_3 cause_19 starting_nums starting_num starting_bytes exp_of leaf_exp leaf_forms two_exp two_forms nesting one_term of_edition forms_below read read_term form_of forms value_of tabulate each_below sum_below uses nodes test_entry entry_test entry_stands entries_test same_entry new_to distinct_test entry_is table_test on_function on_once_function on_cell is_many scoped_const scoped annotated_const annotated const_number on_number result_number applied_number lambda_number both_number case_number with_components type_number outside_many linear_variable linear every starting_image image_of encode head heads expressions image_bytes bytes const_bytes op_tag both_tag case_tag little_endian two_bytes loaded bay_types with_type term_of encode_all first_owners
cases = refl
