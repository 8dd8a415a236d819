-- The bounds of what is transferred.
use Rattle.std.specs.Prelude.{ℕ}

-- the most octets that a store may have
abbrev pub store_limit : ℕ
store_limit = 16777215

-- the most rounds that a document is sealed with
abbrev pub rounds_limit : ℕ
rounds_limit = 100000000

-- the most octets that a password in the arguments may have
abbrev pub password_limit : ℕ
password_limit = 1024
