-- The password of an old store, in the forms in which its algorithms take it.
use Rattle.std.specs.Prelude.{ℕ, Bool, true, false, List, []}
use Rattle.pkcs12_kdf.specs.Password.{bmp_password}
use Rattle.legacy_store.specs.declared.secret.Secret.{Secret}

pub record Forms : Type 0 where
  -- as PBES2 takes it
  pub utf8 : List ℕ
  -- as the MAC and the schemes of RFC 7292 take it
  pub units : List ℕ
  -- whether the store has a MAC, which agreed under it: where it has none, less is opened
  pub has_mac : Bool

-- a password in its UTF-8
abbrev pub forms_of : List ℕ → Forms
forms_of p = record { utf8 = p; units = bmp_password p; has_mac = true }

-- the same, for a store without a MAC
abbrev pub forms_without_mac : List ℕ → Forms
forms_without_mac p = record { utf8 = p; units = bmp_password p; has_mac = false }

-- The null password. Some writers take the empty password as no octets at all, and not as the two
-- zero octets that RFC 7292 appendix B.1 puts after each password.
abbrev pub null_forms : Forms
null_forms = record { utf8 = []; units = []; has_mac = true }

abbrev pub seen_forms : Secret → Forms
seen_forms s = record { utf8 = s.text.now; units = s.units.now; has_mac = s.has_mac }
