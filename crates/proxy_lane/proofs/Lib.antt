-- What several of the lane's proofs use.
mod Siting
