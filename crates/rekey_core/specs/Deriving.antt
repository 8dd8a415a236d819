-- Which keys are derived before the parts under PBES2 are sealed anew.
use Rattle.std.specs.Prelude.{ℕ, List, [], ◌∷◌, ◌++◌, drop, map, take}
use Rattle.std.specs.List.{flat_map}
use Rattle.pkcs5.specs.Kinds.{rounds_of}
use Rattle.p12.specs.declared.algorithm_identifier.AlgorithmIdentifier.{AlgorithmIdentifier}
use Rattle.p12.specs.declared.algorithm_identifier.AlgorithmIdentifier.TheVariants.{Sha1, Sha256, PbewithSHAAnd40BitRC2CBC, PbeWithSHAAnd3KeyTripleDESCBC, Pbes2, OtherAlg}
use Rattle.p12.specs.declared.content_info.ContentInfo.{ContentInfo}
use Rattle.p12.specs.declared.content_info.ContentInfo.TheVariants as content
use Rattle.p12.specs.declared.encrypted_private_key_info.EncryptedPrivateKeyInfo.{EncryptedPrivateKeyInfo}
use Rattle.p12.specs.declared.safe_bag.SafeBag.{SafeBag}
use Rattle.transfer.specs.Opening.{shrouded_among}
use Rattle.rekey_core.specs.Anew.{drawn_for}
use Rattle.rekey_core.specs.Kinds.{kind_for}
use Rattle.rekey_core.specs.declared.kinds.Kinds.{Kinds}
use Rattle.rekey_core.specs.declared.derived_keys.DerivedKeys.{DerivedKeys}
use Rattle.rekey_core.specs.declared.key_derivation.RoundsAndSalt.{RoundsAndSalt}

-- the algorithm of whose kind a content itself is sealed anew
abbrev pub own_algorithm : Kinds → ContentInfo → List AlgorithmIdentifier
own_algorithm to (content.Data v) = []
own_algorithm to (content.EncryptedData d) =
    kind_for to d.encrypted_content_info.content_encryption_algorithm ∷ []
own_algorithm to (content.OtherContext o) = []

-- those of the encrypted keys among bags
abbrev pub key_algorithms : Kinds → List SafeBag → List AlgorithmIdentifier
key_algorithms to gs = map (λ (k : EncryptedPrivateKeyInfo). kind_for to k.encryption_algorithm)
    (shrouded_among gs)

-- those of the parts of contents that hold these bags, in the order in which their octets are drawn
abbrev pub part_algorithms : Kinds → List ContentInfo → List (List SafeBag)
    → List AlgorithmIdentifier
part_algorithms to [] gss = []
part_algorithms to (c ∷ cs) [] = []
part_algorithms to (c ∷ cs) (gs ∷ gss) =
    own_algorithm to c ++ (key_algorithms to gs ++ part_algorithms to cs gss)

-- the rounds and the drawn salt of a part under PBES2; the salt was drawn after the IV
abbrev pub rounds_and_salt : AlgorithmIdentifier → List ℕ → List (ℕ × List ℕ)
rounds_and_salt Sha1 z = []
rounds_and_salt Sha256 z = []
rounds_and_salt (PbewithSHAAnd40BitRC2CBC p) z = []
rounds_and_salt (PbeWithSHAAnd3KeyTripleDESCBC p) z = []
rounds_and_salt (Pbes2 par) z = (rounds_of par.kdf, drop 16 z) ∷ []
rounds_and_salt (OtherAlg o) z = []

-- those of all parts under these algorithms, whose drawn octets follow each other
abbrev pub rounds_and_salts : List AlgorithmIdentifier → List ℕ → List (ℕ × List ℕ)
rounds_and_salts [] drawn = []
rounds_and_salts (a ∷ rest) drawn =
    rounds_and_salt a (take (drawn_for a) drawn) ++ rounds_and_salts rest (drop (drawn_for a) drawn)

-- what is seen of parts
abbrev pub seen_parts : List RoundsAndSalt → List (ℕ × List ℕ)
seen_parts parts = map (λ (p : RoundsAndSalt). (p.rounds, p.salt)) parts

-- the rounds and the salt of each key of a run
abbrev pub seen_run : DerivedKeys → List (ℕ × List ℕ)
seen_run run = map (λ (salt : List ℕ). (run.rounds, salt)) run.salts

-- those of each key of runs
abbrev pub seen_runs : List DerivedKeys → List (ℕ × List ℕ)
seen_runs runs = flat_map seen_run runs

-- the keys of runs
abbrev pub keys_in : List DerivedKeys → List (List ℕ)
keys_in runs = flat_map (λ (run : DerivedKeys). run.keys) runs
