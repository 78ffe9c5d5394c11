-- The table of node forms: where the parts of an application or case stand in which values meet.
use Rattle.std.specs.Prelude.{ℕ, ◌+◌, ◌*◌}

-- the bytes of an application before its function, of a lambda before its body, of a name, and of a constant with a type
abbrev pub application_length : ℕ
application_length = 1

abbrev pub lambda_length : ℕ
lambda_length = 2

abbrev pub name_length : ℕ
name_length = 2

abbrev pub constant_length : ℕ
constant_length = 2

-- from the application to the body of a lambda that is applied
abbrev pub to_body : ℕ
to_body = application_length + lambda_length

-- to the number of a name that is applied, the byte after its tag
abbrev pub to_called : ℕ
to_called = application_length + 1

-- to the first argument of a full exch, past two applications and the constant; and to its number, where it is a name
abbrev pub to_exchanged : ℕ
to_exchanged = 2 * application_length + constant_length

abbrev pub to_exchanged_name : ℕ
to_exchanged_name = to_exchanged + 1

-- T-03: the bytes of a case before its subject, of a pair or list front before its components
abbrev pub case_length : ℕ
case_length = 1

abbrev pub both_length : ℕ
both_length = 2

-- from the case to the first component of its subject; and to the number of a name that is its subject
abbrev pub to_component : ℕ
to_component = case_length + both_length

abbrev pub to_subject_name : ℕ
to_subject_name = case_length + 1
