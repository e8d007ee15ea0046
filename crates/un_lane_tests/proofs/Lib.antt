mod Refilled
